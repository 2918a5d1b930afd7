-- `solved` meets its contract: what was copied so far is what is solved of the entries passed.
use Rattle.contexts.specs.Build.{Kept}
use Rattle.contexts.proofs.solved.Given as goal

abbrev pub invariant-loop-i : goal.invariant-loop-i
invariant-loop-i l = Kept l.initial.work l.work l.fn.g.at l.i l.to l.m
