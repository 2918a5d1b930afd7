-- `answer` meets its contract.
use Rattle.desk.proofs.Saying.{said}
use Rattle.desk.proofs.Lent.answer.Goals as goal

pub returns-clause-said : goal.returns-clause-said
returns-clause-said c = search said
