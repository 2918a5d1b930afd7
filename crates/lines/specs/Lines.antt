-- A line of numbers as ASCII bytes, and what it means to write bytes at a place of a buffer.
use Rattle.std.specs.Prelude.{◌≡◌, true, false, List, [], ◌∷◌, ◌++◌, ℕ, zero, suc, ◌+◌, ◌/◌, ◌%◌, ltb, length, take}

-- the decimal digits of n, without leading zeros; the depth is never reached where it is more than n
unfoldable pub decimal_to : ℕ → ℕ → List ℕ
decimal_to zero n = []
decimal_to (suc depth) n = elim (ltb n 10) [ true ↦ (48 + n) ∷ [] | false ↦ decimal_to depth (n / 10) ++ ((48 + n % 10) ∷ []) ]

-- a number as document 01's examples print it: `0 0 13 2`
unfoldable pub decimal : ℕ → List ℕ
decimal n = decimal_to (suc n) n

-- "prints two lines: the four numbers, then the report words (line empty if none)": one line, single spaces between, a newline at its end
unfoldable pub line_of : List ℕ → List ℕ
line_of [] = 10 ∷ []
line_of (n ∷ []) = decimal n ++ (10 ∷ [])
line_of (n ∷ m ∷ ms) = decimal n ++ (32 ∷ line_of (m ∷ ms))

-- `unfolding lines_compute` opens every definition above
unfoldable pub lines_compute : Unit {0}
unfolding decimal_to decimal line_of
lines_compute = tt

-- the buffer s became s': what stood before the place p, then the bytes; z is the place past them
pub record PutBytes (s s' : List ℕ) (p : ℕ) (bytes : List ℕ) (z : ℕ) : Type 0 where
  pub is : take z s' ≡ take p s ++ bytes
  pub next : z ≡ p + length bytes
