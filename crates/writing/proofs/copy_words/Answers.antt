-- `copy_words` meets its contract.
use native.Mathlib.Omega.{arith}
use Rattle.writing.proofs.Copying.{first_none, first_length, first_more, first_all}
use Rattle.writing.proofs.copy_words.Goals as goal

pub loop-i-init : goal.loop-i-init
loop-i-init c = search first_none

pub bounds-report-at : goal.bounds-report-at
bounds-report-at c = omega (arith, first_length)

pub loop-i-preserved : goal.loop-i-preserved
loop-i-preserved c = search first_more

pub shape_of-report : goal.shape_of-report
shape_of-report c = search first_length

pub returns : goal.returns
returns c = search first_all
