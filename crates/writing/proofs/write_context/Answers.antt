-- `write_context` meets its contract.
use native.Mathlib.Omega.{arith}
use Rattle.writing.proofs.Spelling.{writable_as, writable_first, writable_inner, counted, writes_section}
use Rattle.writing.proofs.Loops.{put_first, put_next, put_end}
use Rattle.writing.proofs.Contexts.{entries_all, entries_first, entries_none}
use Rattle.writing.proofs.write_context.Goals as goal

pub loop-k-init : goal.loop-k-init
loop-k-init c = put_first (entries_all _) (writable_inner c.requires)

pub write_entry-next-requires : goal.write_entry-next-requires
write_entry-next-requires c = writable_first (writable_as (entries_first _ c.loop-k-test.true) c.loop-k.invariant.rest)

pub loop-k-preserved : goal.loop-k-preserved
loop-k-preserved c = put_next (entries_first _ c.loop-k-test.true) c.loop-k.invariant c.write_entry-next.ensures

pub overflow_sub-next : goal.overflow_sub-next
overflow_sub-next c = omega (arith, (counted c.requires (put_end (entries_none _ c.loop-k-test.false) c.loop-k.invariant)).first)

pub put-requires : goal.put-requires
put-requires c =
    let k = counted c.requires (put_end (entries_none _ c.loop-k-test.false) c.loop-k.invariant) in (k.place, omega (arith, k.small))

pub returns : goal.returns
returns c = writes_section (put_end (entries_none _ c.loop-k-test.false) c.loop-k.invariant) c.put.ensures
