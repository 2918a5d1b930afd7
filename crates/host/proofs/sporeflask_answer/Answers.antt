-- `sporeflask_answer` meets its contract.
use Rattle.host.proofs.Replying.{short, answered}
use Rattle.host.proofs.sporeflask_answer.Goals as goal

pub returns-then-reply-lt16 : goal.returns-then-reply-lt16
returns-then-reply-lt16 c = short c.if-reply-lt16.true

pub returns : goal.returns
returns c = search answered
