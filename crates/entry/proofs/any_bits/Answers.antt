-- `any_bits` meets its contract.
use native.Mathlib.Omega.{arith}
use Rattle.entry.proofs.Clearing.{no_bits, zero_bits, zero_more}
use Rattle.entry.proofs.any_bits.Goals as goal

pub loop-word-preserved : goal.loop-word-preserved
loop-word-preserved c = (
  λ e. let z = no_bits c.loop-word.bits _ e in zero_more c.args.block.now c.loop-word.word-index (omega arith) z.1 (c.loop-word.invariant.0 z.0),
  λ e. zero_bits c.args.block.now c.loop-word.word-index c.loop-word.bits (omega arith) (c.loop-word.invariant.1 e) e,
)
