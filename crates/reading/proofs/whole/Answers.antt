-- `whole` meets its contract.
use Rattle.reading.specs.Sections.{exact, early}
use Rattle.reading.proofs.whole.Goals as goal

pub returns-then-past-end : goal.returns-then-past-end
returns-then-past-end c = rw c.if-past-end.true exact

pub returns : goal.returns
returns c = rw c.bad_shape.ensures (early c.if-past-end.false)
