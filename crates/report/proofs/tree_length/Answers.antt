-- `tree_length` meets its contract.
use native.Mathlib.Omega.{arith}
use Rattle.writing.proofs.Spelling.{spelled_as, spelled_first, long_section}
use Rattle.writing.proofs.Loops.{sum_next, sum_end}
use Rattle.writing.proofs.After.{measures_own}
use Rattle.report.proofs.Nodes.{nodes_room, nodes_first, nodes_none}
use Rattle.report.proofs.tree_length.Goals as goal

pub overflow_sub-m : goal.overflow_sub-m
overflow_sub-m c = search nodes_room

pub node_length-z-requires : goal.node_length-z-requires
node_length-z-requires c = (spelled_first (spelled_as (nodes_first c.loop-m-test.true) c.loop-m.invariant.0.rest), c.loop-m.invariant.1)

pub loop-m-preserved : goal.loop-m-preserved
loop-m-preserved c = search (sum_next, nodes_first, measures_own)

pub returns : goal.returns
returns c = long_section (sum_end (nodes_none c.loop-m-test.false) c.loop-m.invariant.0) (omega arith) c.sum.ensures
