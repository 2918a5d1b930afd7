-- `left_of` meets its contract.
use native.Mathlib.Omega.{arith}
use Rattle.types.proofs.Reading.{four_in_work, left_written, left_made}
use Rattle.types.proofs.Store.left_of.Goals as goal

pub word-requires : goal.word-requires
word-requires c = omega (arith, four_in_work c.requires.held c.if-r-lt-BASE.false (omega (arith, c.requires.code)))

pub returns-then-r-lt-BASE : goal.returns-then-r-lt-BASE
returns-then-r-lt-BASE c = search left_written

pub returns-else-r-lt-BASE : goal.returns-else-r-lt-BASE
returns-else-r-lt-BASE c = search left_made
