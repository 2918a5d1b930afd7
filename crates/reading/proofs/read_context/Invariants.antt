-- The loop of `read_context`: what was read so far, and the words left.
use Prim.Native.Nat.{◌-◌}
use Rattle.reading.proofs.Contexts.{Sofar}
use Rattle.reading.proofs.read_context.Given as goal

abbrev pub invariant-loop-past : goal.invariant-loop-past
invariant-loop-past l = Sofar l.q l.first l.end l.past l.value

abbrev pub decreases-loop-past : goal.decreases-loop-past
decreases-loop-past l = l.end - l.past
