-- `write_tree` meets its contract.
use Rattle.writing.specs.After.{Stands}
use Rattle.writing.proofs.Loops.{Putting}
use Rattle.report.specs.Nodes.{OfNodes}
use Rattle.report.proofs.write_tree.Given as goal

abbrev pub invariant-loop-m : goal.invariant-loop-m
invariant-loop-m l =
    let q = l.store.q.now in
    let w = l.store.work.now in
    let t = l.store.top in
    Putting q w t (OfNodes q w t l.low l.high) l.initial.report l.initial.next (OfNodes q w t l.low l.m) l.report l.next
    × Stands q w t l.report l.next l.last

abbrev pub decreases-loop-m : goal.decreases-loop-m
decreases-loop-m l = l.m
