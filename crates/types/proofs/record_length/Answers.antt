-- `record_length` meets its contract.
use native.Mathlib.Omega.{arith}
use mathlib.Core.Path.{sym}
use Rattle.types.proofs.Codes.{sizes}
use Rattle.types.proofs.record_length.Goals as goal

pub returns-in-1-to-2 : goal.returns-in-1-to-2
returns-in-1-to-2 c = record { is = λ T e. sym ((sizes T).one (omega arith)) }

pub returns-in-3-to-4 : goal.returns-in-3-to-4
returns-in-3-to-4 c = record { is = λ T e. sym ((sizes T).two (omega arith) (omega arith)) }

pub returns-in_default : goal.returns-in_default
returns-in_default c = record { is = λ T e. absurd (omega (arith, (sizes T).low)) }

pub returns-in_default-2 : goal.returns-in_default-2
returns-in_default-2 c = record { is = λ T e. sym ((sizes T).four (omega arith)) }
