-- `leave` meets its contract.
use Rattle.judging.proofs.Paying.{is_err, leave_conclude, leave_fail, leave_spent}
use Rattle.judging.proofs.leave.Goals as goal

pub returns-in-Ok : goal.returns-in-Ok
returns-in-Ok c = search leave_conclude

pub returns-in-Err-Fail : goal.returns-in-Err-Fail
returns-in-Err-Fail c = leave_fail (is_err c.in-Err-Fail.is (rw c.in-Err-Fail.is at c.in-Err-Fail.field-0-is)) c.charged_since.ensures

pub returns-in-Err-Spent : goal.returns-in-Err-Spent
returns-in-Err-Spent c = leave_spent (is_err c.in-Err-Spent.is (rw c.in-Err-Spent.is at c.in-Err-Spent.field-0-is))
