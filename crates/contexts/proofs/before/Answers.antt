-- `before` meets its contract.
use Rattle.contexts.proofs.Search.{before_none, before_some}
use Rattle.contexts.proofs.before.Goals as goal

pub returns-then-i-g : goal.returns-then-i-g
returns-then-i-g c = search before_none

pub returns : goal.returns
returns c = search before_some
