-- `draw` meets its contract.
use mathlib.Core.Path.{◌≡◌, refl}
use Prim.Native.Nat.{suc, ◌+◌}
use native.Mathlib.Omega.{arith}
use Rattle.layout.proofs.State.draw.Goals as goal

pub returns : goal.returns
returns c = let e : c.args.self.fresh + 1 ≡ suc c.args.self.fresh = omega arith in record { st = rw e refl; name = refl }
