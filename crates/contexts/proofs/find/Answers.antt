-- `find` meets its contract: the first entry in words is the definition's.
use Rattle.layout.specs.Names.{key}
use Rattle.contexts.proofs.Search.{first_split}
use Rattle.contexts.proofs.find.Goals as goal

pub returns : goal.returns
returns c = first_split (key c.args.k) (rw (c.kind.ensures, c.name.ensures.0) at c.first.ensures)
