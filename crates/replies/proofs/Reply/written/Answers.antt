-- `written` meets its contract.
use Rattle.replies.proofs.Lengths.{none, some}
use Rattle.replies.proofs.Reply.written.Goals as goal

pub returns-then-self-number : goal.returns-then-self-number
returns-then-self-number c = none c.args.self (rw c.number.ensures at c.if-self-number.true)

pub returns-else-self-number : goal.returns-else-self-number
returns-else-self-number c = some c.args.self (rw c.number.ensures at c.if-self-number.false)
