-- `type_words` meets its contract.
use native.Mathlib.Omega.{arith}
use Rattle.types.proofs.Reading.{end_in_question, end_in_work, words_written}
use Rattle.types.proofs.Store.type_words.Goals as goal

pub slice_bounds-result-count : goal.slice_bounds-result-count
slice_bounds-result-count c = (end_in_question c.requires c.if-r-lt-BASE.true c.past.ensures).0

pub slice_bounds-result-start : goal.slice_bounds-result-start
slice_bounds-result-start c = (end_in_question c.requires c.if-r-lt-BASE.true c.past.ensures).0

pub slice_bounds-result-end : goal.slice_bounds-result-end
slice_bounds-result-end c = (end_in_question c.requires c.if-r-lt-BASE.true c.past.ensures).1

pub returns-then-r-lt-BASE : goal.returns-then-r-lt-BASE
returns-then-r-lt-BASE c = search words_written

pub overflow_add-result : goal.overflow_add-result
overflow_add-result c = omega (arith, end_in_work c.requires c.if-r-lt-BASE.false c.tag.ensures c.record_length.ensures)

pub slice_bounds-result-end-2 : goal.slice_bounds-result-end-2
slice_bounds-result-end-2 c = search end_in_work
