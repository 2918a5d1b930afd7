-- `type_length` meets its contract.
use native.Mathlib.Omega.{arith}
use Rattle.types.proofs.Reading.{four_in_work, end_in_question, length_written, length_leaf, length_made}
use Rattle.types.proofs.Store.type_length.Goals as goal

pub overflow_sub-result : goal.overflow_sub-result
overflow_sub-result c = (end_in_question c.requires c.if-r-lt-BASE.true c.past.ensures).0

pub returns-then-r-lt-BASE : goal.returns-then-r-lt-BASE
returns-then-r-lt-BASE c = search length_written

pub returns-then-code-lt5 : goal.returns-then-code-lt5
returns-then-code-lt5 c = search length_leaf

pub word-requires : goal.word-requires
word-requires c =
    omega (arith, four_in_work c.requires c.if-r-lt-BASE.false (omega (arith, c.tag-code.ensures.is c.requires.type c.requires.den)))

pub returns : goal.returns
returns c = search length_made
