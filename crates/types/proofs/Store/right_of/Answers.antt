-- `right_of` meets its contract.
use native.Mathlib.Omega.{arith}
use Rattle.types.proofs.Reading.{four_in_work, left_in_table, right_written, right_made}
use Rattle.types.proofs.Store.right_of.Goals as goal

pub past-requires : goal.past-requires
past-requires c = search left_in_table

pub word-requires : goal.word-requires
word-requires c = omega (arith, four_in_work c.requires.held c.if-r-lt-BASE.false (omega (arith, c.requires.code)))

pub returns-then-r-lt-BASE : goal.returns-then-r-lt-BASE
returns-then-r-lt-BASE c = search right_written

pub returns-else-r-lt-BASE : goal.returns-else-r-lt-BASE
returns-else-r-lt-BASE c = search right_made
