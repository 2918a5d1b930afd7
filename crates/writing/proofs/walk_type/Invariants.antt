-- `walk_type` meets its contract.
use Prim.Native.Nat.{◌-◌}
use Rattle.writing.proofs.Types.{Writing}
use Rattle.writing.proofs.walk_type.Given as goal

abbrev pub invariant-loop-pen : goal.invariant-loop-pen
invariant-loop-pen l = Writing l.store.q.now l.store.work.now l.store.top l.r l.at l.end l.initial.report l.report l.pen.at l.pen.low

abbrev pub decreases-loop-pen : goal.decreases-loop-pen
decreases-loop-pen l = l.end - l.pen.at
