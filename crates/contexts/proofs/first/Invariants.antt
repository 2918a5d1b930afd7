-- `first` meets its contract: no entry passed has that kind and name.
use Prim.Native.Nat.{ℕ, ◌<◌}
use Rattle.contexts.specs.Search.{Hit}
use Rattle.contexts.proofs.first.Given as goal

abbrev pub invariant-loop-i : goal.invariant-loop-i
invariant-loop-i l = (j : ℕ) → j < l.i → Hit l.work l.fn.g.at l.kind l.name j → ⊥
