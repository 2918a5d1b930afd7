-- `read_question` meets its contract.
use mathlib.Core.Path.{◌≡◌}
use native.Mathlib.Omega.{arith}
use Rattle.std.proofs.lemmas.Grind.{common_steps}
use Rattle.reading.proofs.Items.{passed}
use Rattle.reading.proofs.Questions.{mode_number, kind_bad, mode_end, mode_bad, question_read}
use Rattle.reading.proofs.read_question.Goals as goal
use Rattle.reading.proofs.read_question.Goals.{in-0, in-1}

pub returns-in_default : goal.returns-in_default
returns-in_default c = kind_bad _ c.requires.0 c.requires.1 c.in_default.ensures c.bad_shape.ensures

pub returns-in_err-read_word : goal.returns-in_err-read_word
returns-in_err-read_word c =
    rw (passed c.from_residual.ensures.1) (mode_end _ c.requires.0 c.requires.1 _ c.in-Ok.ensures c.in_err-read_word.ensures)

pub returns-in_default-2 : goal.returns-in_default-2
returns-in_default-2 c =
    mode_bad _ c.requires.0 c.requires.1 _ c.in-Ok.ensures c.in_ok-read_word.ensures (grind (arith, common_steps))
    c.bad_shape-in_default-2.ensures

pub returns : goal.returns
returns c =
    let e : c.in_ok-read_word.field-0 ≡ mode_number c.match-branch-2.mode = elim c.match-branch-2.branch [
      | in-0 w ↦ rw w.mode-is w.in-0.is
      | in-1 w ↦ rw w.mode-is w.in-1.is
    ] in
    question_read _ c.requires.0 c.requires.1 _ c.in-Ok.ensures c.in_ok-read_word.ensures e c.read_sections.ensures
