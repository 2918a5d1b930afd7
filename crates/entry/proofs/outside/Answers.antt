-- `outside` meets its contract.
use mathlib.Core.Path.{ap, ◌∙◌, sym}
use Rattle.entry.proofs.Asking.{is_strict, not_strict, outside_of}
use Rattle.entry.proofs.outside.Goals as goal
use Rattle.entry.proofs.outside.Goals.{in-Strict, in_default}

pub returns : goal.returns
returns c =
    outside_of (elim c.match-matches.branch [
      | in-Strict w ↦ w.matches-is ∙ sym (ap is_strict w.in-Strict.is)
      | in_default w ↦ w.matches-is ∙ sym (not_strict c.args.mode w.in_default.not-Strict)
    ]) c.outside.ensures
