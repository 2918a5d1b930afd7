-- `mono` meets its contract.
use mathlib.Core.Path.{ap}
use lib.Dec.{leb}
use Rattle.layout.specs.Sizes.{MONO}
use Rattle.layout.proofs.mono.Goals as goal

pub returns : goal.returns
returns c = ap (leb MONO) c.word.ensures.0
