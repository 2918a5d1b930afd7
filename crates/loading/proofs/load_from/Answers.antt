-- `load_from` meets its contract.
use mathlib.Core.Path.{◌≡◌}
use Prim.Native.Nat.{◌+◌, ◌-◌, ◌*◌}
use native.Mathlib.Omega.{arith}
use Rattle.loading.proofs.Loading.{loaded_none, next_reads, loaded_some}
use Rattle.loading.proofs.load_from.Goals as goal

pub loop-i-preserved : goal.loop-i-preserved
loop-i-preserved c =
    let place : c.args.at + 4 * (c.loop-i.i + 1) ≡ c.args.at + 4 * c.loop-i.i + 4 = omega arith in
    let count : c.args.n - (c.loop-i.i + 1) ≡ c.args.n - c.loop-i.i - 1 = omega arith in
    let rest = rw c.word-kind.ensures.0 at c.rest_of-r.ensures in
    let put = rw (c.word-kind.ensures.0, c.word-name.ensures.0) at c.put4.ensures in
    record {
      left = rw (place, count) (next_reads c.loop-i.invariant.left (λ e. omega arith) rest put);
      whole = λ w more. c.loop-i.invariant.whole w
          (loaded_some c.loop-i.invariant.left (λ e. omega arith) rest put (rw (place, count) at more));
    }

pub returns : goal.returns
returns c = c.loop-i.invariant.whole _ (loaded_none _ _ _ _ _ (omega arith))
