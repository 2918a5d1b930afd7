-- `clear` meets its contract.
use native.Mathlib.Omega.{arith}
use mathlib.Core.Path.{◌≡◌}
use Prim.Native.Nat.{◌+◌, ◌*◌, ◌/◌}
use Rattle.entry.proofs.Clearing.{Front, front_more}
use Rattle.entry.proofs.clear.Goals as goal

pub loop-i-preserved : goal.loop-i-preserved
loop-i-preserved c = front_more c.loop-i.invariant (256 * (c.loop-i.i + 1)) (omega arith) (omega arith) _ c.clear_block.ensures

pub returns : goal.returns
returns c =
    let e : c.loop-i.i ≡ c.args.n / 256 = omega arith in let f : Front c.args.work.now c.loop-i.work (256 * (c.args.n / 256)) = rw e at
    c.loop-i.invariant in (front_more f c.args.n (omega arith) (omega arith) _ (c.fill.ensures.after (λ y m. m))).is
