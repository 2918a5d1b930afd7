-- `chosen` meets its contract.
use mathlib.Core.Path.{sym}
use Rattle.definition.specs.Types.{same_name}
use Rattle.laws.proofs.Steps.{pick_true, pick_false}
use Rattle.substitution.proofs.chosen.Goals as goal

pub returns-then-eq : goal.returns-then-eq
unfolding same_name
returns-then-eq c = record { name = _; named = c.name_of.ensures; is = sym (pick_true _ _ (sym c.if-eq.ensures)) }

pub returns-else-eq : goal.returns-else-eq
unfolding same_name
returns-else-eq c = record { name = _; named = c.name_of.ensures; is = sym (pick_false _ _ (sym c.if-eq.ensures)) }
