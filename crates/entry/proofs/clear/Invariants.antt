-- `clear` meets its contract.
use Prim.Native.Nat.{◌*◌}
use Rattle.entry.proofs.Clearing.{Front}
use Rattle.entry.proofs.clear.Given as goal

abbrev pub invariant-loop-i : goal.invariant-loop-i
invariant-loop-i l = Front l.initial.work l.work (256 * l.i)
