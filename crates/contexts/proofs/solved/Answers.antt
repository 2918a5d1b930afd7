-- `solved` meets its contract: what was copied so far is what is solved of the entries passed.
use native.Mathlib.Omega.{arith}
use Rattle.contexts.proofs.Kept.{kept_none, kept_more}
use Rattle.contexts.proofs.solved.Goals as goal

pub loop-i-init : goal.loop-i-init
loop-i-init c = kept_none

pub loop-i-preserved : goal.loop-i-preserved
loop-i-preserved c = kept_more (omega arith) c.loop-i.invariant c.keep_solved-m.ensures
