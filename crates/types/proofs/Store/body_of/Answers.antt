-- `body_of` meets its contract.
use native.Mathlib.Omega.{arith}
use Rattle.types.proofs.Reading.{four_in_work, body_written, body_made}
use Rattle.types.proofs.Store.body_of.Goals as goal

pub word-requires : goal.word-requires
word-requires c = omega (arith, four_in_work c.requires.held c.if-r-lt-BASE.false (omega (arith, c.requires.code)))

pub returns-then-r-lt-BASE : goal.returns-then-r-lt-BASE
returns-then-r-lt-BASE c = search body_written

pub returns-else-r-lt-BASE : goal.returns-else-r-lt-BASE
returns-else-r-lt-BASE c = search body_made
