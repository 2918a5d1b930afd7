-- `form` meets its contract.
use native.Mathlib.Omega.{arith}
use Rattle.types.proofs.Codes.{sizes}
use Rattle.types.proofs.Store.form.Goals as goal

pub returns-in_default : goal.returns-in_default
returns-in_default c = record { is = λ T d. omega (arith, c.tag.ensures.is T d, (sizes T).low, (sizes T).high) }
