-- `lookup` meets its contract.
use Rattle.contexts.proofs.Search.{looked_none, looked_some}
use Rattle.contexts.proofs.lookup.Goals as goal

pub returns-then-i-g : goal.returns-then-i-g
returns-then-i-g c = looked_none c.find-i.ensures c.if-i-g.true

pub returns : goal.returns
returns c = looked_some c.find-i.ensures c.if-i-g.false c.type_at.ensures.0 c.type_at.ensures.1
