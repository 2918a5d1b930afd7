-- `write_tree` meets its contract.
use native.Mathlib.Omega.{arith}
use Rattle.writing.proofs.Spelling.{writable_as, writable_first, writable_inner, counted, writes_section}
use Rattle.writing.proofs.Loops.{put_first, put_next, put_end}
use Rattle.writing.proofs.After.{stands_before}
use Rattle.report.proofs.Nodes.{nodes_room, nodes_first, nodes_none}
use Rattle.report.proofs.write_tree.Goals as goal

pub loop-m-init : goal.loop-m-init
loop-m-init c = (put_first (λ ws x. x) (writable_inner c.requires.0), stands_before (omega arith) c.requires.1)

pub overflow_sub-m : goal.overflow_sub-m
overflow_sub-m c = search nodes_room

pub write_node-z-requires : goal.write_node-z-requires
write_node-z-requires c = (writable_first (writable_as (nodes_first c.loop-m-test.true) c.loop-m.invariant.0.rest), c.loop-m.invariant.1)

pub loop-m-preserved : goal.loop-m-preserved
loop-m-preserved c = search (put_next, nodes_first)

pub overflow_sub-next : goal.overflow_sub-next
overflow_sub-next c = omega (arith, (counted c.requires.0 (put_end (nodes_none c.loop-m-test.false) c.loop-m.invariant.0)).first)

pub put-requires : goal.put-requires
put-requires c =
    let k = counted c.requires.0 (put_end (nodes_none c.loop-m-test.false) c.loop-m.invariant.0) in (k.place, omega (arith, k.small))

pub returns : goal.returns
returns c = search (writes_section, put_end, nodes_none)
