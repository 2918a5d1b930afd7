-- `finish` meets its contract.
use Rattle.entry.proofs.Finishing.{answer_units, answer_spelled, answer_small, answer_gives, error_units, error_code, error_words, error_length, error_gives, spent_gives}
use Rattle.judging.proofs.Paying.{is_err}
use borrow.Author.Rules.{rules}
use native.Mathlib.Omega.{arith}
use Rattle.entry.proofs.finish.Goals as goal

pub report_result-y-requires : goal.report_result-y-requires
report_result-y-requires c = search answer_spelled

pub told-requires : goal.told-requires
told-requires c = search (answer_units, answer_small, rules)

pub report_error-y-requires : goal.report_error-y-requires
report_error-y-requires c = error_words c.requires (is_err c.in-Err-Fail.is (rw c.in-Err-Fail.is at c.in-Err-Fail.field-0-is))

pub overflow_cast-b : goal.overflow_cast-b
overflow_cast-b c = omega (arith, error_code c.requires (is_err c.in-Err-Fail.is (rw c.in-Err-Fail.is at c.in-Err-Fail.field-0-is)))

pub told-requires-in-Err-Fail : goal.told-requires-in-Err-Fail
told-requires-in-Err-Fail c = (error_units c.requires (is_err c.in-Err-Fail.is (rw c.in-Err-Fail.is at c.in-Err-Fail.field-0-is)), error_length c.requires (is_err c.in-Err-Fail.is (rw c.in-Err-Fail.is at c.in-Err-Fail.field-0-is)) c.report_error-y.ensures)

pub returns-in-Ok : goal.returns-in-Ok
returns-in-Ok c = rw (c.told.ensures, ← c.number.ensures) (answer_gives c.requires c.in-Ok.is _ c.report_result-y.ensures)

pub returns-in-Err-Fail : goal.returns-in-Err-Fail
returns-in-Err-Fail c = rw c.told-in-Err-Fail.ensures (error_gives c.requires (is_err c.in-Err-Fail.is (rw c.in-Err-Fail.is at c.in-Err-Fail.field-0-is)) c.report_error-y.ensures _)

pub returns-in-Err-Spent : goal.returns-in-Err-Spent
returns-in-Err-Spent c = spent_gives (is_err c.in-Err-Spent.is (rw c.in-Err-Spent.is at c.in-Err-Spent.field-0-is)) c.spent.ensures
