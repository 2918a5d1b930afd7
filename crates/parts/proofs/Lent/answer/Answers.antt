-- `answer` meets its contract.
use Rattle.parts.proofs.Showing.{shown}
use Rattle.parts.proofs.Lent.answer.Goals as goal

pub returns-clause-said : goal.returns-clause-said
returns-clause-said c = search shown
