-- `copy` meets its contract.
use mathlib.Core.Path.{◌≡◌}
use Prim.Native.Nat.{ℕ, ◌<◌, ◌+◌}
use lib.ListN.{get_or}
use Rattle.layout.specs.Words.{Keep}
use Rattle.layout.proofs.copy.Given as goal

abbrev pub invariant-loop-i : goal.invariant-loop-i
invariant-loop-i l =
    Keep l.to (l.to + l.n) l.initial.words l.words × ((j : ℕ) → j < l.i → get_or l.words (l.to + j) 0 ≡ get_or l.initial.words
    (l.from + j) 0)
