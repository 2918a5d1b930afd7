-- One type of several, by its number.
use mathlib.Core.List.{List, [], ◌∷◌}
use Prim.Native.Nat.{ℕ, zero, suc}

abbrev pub nth : List {1} (Type 0) → ℕ → Type 0
nth [] n = ⊥
nth (T ∷ Ts) zero = T
nth (T ∷ Ts) (suc n) = nth Ts n
