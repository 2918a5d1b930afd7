-- `right_of` meets its contract where there is none; what is right of one is what `find` says.
use Rattle.contexts.proofs.Search.{right_none}
use Rattle.contexts.proofs.right_of.Goals as goal

pub returns-then-i-g : goal.returns-then-i-g
returns-then-i-g c = search right_none
