-- `outcome` meets its contract.
use native.Mathlib.Omega.{arith}
use Rattle.report.specs.Reports.{fits, too_long}
use Rattle.report.proofs.outcome.Goals as goal

pub returns-then-n-gt-MOST : goal.returns-then-n-gt-MOST
returns-then-n-gt-MOST c = too_long (λ h. omega arith) (omega arith)

pub returns-then-room-n : goal.returns-then-room-n
returns-then-room-n c = too_long (λ h. omega arith) (omega arith)

pub returns : goal.returns
returns c = search fits
