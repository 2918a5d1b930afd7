-- `part` meets its contract.
use native.Mathlib.Omega.{arith}
use Rattle.rules.proofs.Parting.{arrow_room, part_space, parts}
use Rattle.rules.proofs.part.Goals as goal

pub put_arrow-arrow-requires : goal.put_arrow-arrow-requires
put_arrow-arrow-requires c = search (arrow_room, c.put_etvar-c.ensures)

pub replace-o-requires : goal.replace-o-requires
replace-o-requires c = (
  omega arith,
  part_space c.requires c.draw-one.ensures c.draw-two.ensures c.put_etvar-b.ensures c.put_etvar-c.ensures c.put_arrow-arrow.ensures
      c.raise.ensures c.entry-e.ensures c.entry-e2.ensures c.entry-e3.ensures,
)

pub returns : goal.returns
returns c =
    parts c.requires c.draw-one.ensures c.draw-two.ensures c.put_etvar-b.ensures c.put_etvar-c.ensures c.put_arrow-arrow.ensures
    c.raise.ensures c.entry-e.ensures c.entry-e2.ensures c.entry-e3.ensures c.replace-o.ensures
