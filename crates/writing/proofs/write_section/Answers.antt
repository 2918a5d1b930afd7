-- `write_section` meets its contract.
use native.Mathlib.Omega.{arith}
use Rattle.writing.proofs.Spelling.{writable_inner, counted, writes_section}
use Rattle.writing.proofs.write_section.Goals as goal

pub write_part-next-requires : goal.write_part-next-requires
write_part-next-requires c = search writable_inner

pub overflow_sub-next : goal.overflow_sub-next
overflow_sub-next c = omega (arith, (counted c.requires c.write_part-next.ensures).first)

pub put-requires : goal.put-requires
put-requires c = let k = counted c.requires c.write_part-next.ensures in (k.place, omega (arith, k.small))

pub returns : goal.returns
returns c = search writes_section
