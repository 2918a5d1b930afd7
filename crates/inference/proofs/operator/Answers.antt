-- `operator` meets its contract.
use native.Mathlib.Omega.{arith}
use Rattle.inference.proofs.Choosing.{is_arith, is_bool, is_eq, is_cmp}
use Rattle.inference.proofs.operator.Goals as goal

pub returns-in-1-to-4 : goal.returns-in-1-to-4
returns-in-1-to-4 c = omega (arith, is_arith)

pub returns-in-5-to-6 : goal.returns-in-5-to-6
returns-in-5-to-6 c = is_bool (omega arith) (omega arith)

pub returns-in-7-to-8 : goal.returns-in-7-to-8
returns-in-7-to-8 c = is_eq (omega arith) (omega arith)

pub returns-in_default : goal.returns-in_default
returns-in_default c = is_cmp (λ h. omega arith)

pub returns-in_default-2 : goal.returns-in_default-2
returns-in_default-2 c = search is_cmp
