-- `copy` meets its contract.
use native.Mathlib.Omega.{arith}
use Rattle.layout.proofs.Words.{keep_trans, keep_set, copy_more}
use Rattle.layout.proofs.copy.Goals as goal

pub loop-i-preserved : goal.loop-i-preserved
loop-i-preserved c = (
  keep_trans c.loop-i.invariant.0 (keep_set _ _ _ _ _ (omega arith) (omega arith)),
  copy_more c.args.from c.args.n
      c.loop-i.i c.requires.0 c.requires.1 (omega arith) c.loop-i.invariant.0 c.loop-i.invariant.1,
)

pub returns : goal.returns
returns c = record { keep = c.loop-i.invariant.0; same = λ j l. c.loop-i.invariant.1 j (omega arith) }
