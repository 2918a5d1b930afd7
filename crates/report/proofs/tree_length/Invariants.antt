-- `tree_length` meets its contract.
use Rattle.writing.specs.After.{Measures}
use Rattle.writing.proofs.Loops.{Summing}
use Rattle.report.specs.Nodes.{OfNodes}
use Rattle.report.proofs.tree_length.Given as goal

abbrev pub invariant-loop-m : goal.invariant-loop-m
invariant-loop-m l =
    let q = l.store.q.now in
    let w = l.store.work.now in
    let t = l.store.top in
    Summing q w t (OfNodes q w t l.low l.high) (OfNodes q w t l.low l.m) l.total × Measures q w t l.last.g l.last

abbrev pub decreases-loop-m : goal.decreases-loop-m
decreases-loop-m l = l.m
