-- The codes that a reply has.
use Rattle.std.specs.Prelude.{◌≡◌, Bool, false, ◌&&◌, ◌||◌, List, [], ◌∷◌, ℕ, T, leb, eqb}
use Rattle.definition.specs.Run.{Out, done, fail, stop}
use Rattle.definition.specs.Reply.{error_code}

-- none of 1 to 5
abbrev pub Late : ℕ → Type 0
Late c = (leb 1 c && leb c 5) ≡ false

-- ---- Order 5: "no question in either mode draws 16"

-- document 01's table without 8, which is the telephone host's alone, and without 16
abbrev pub reply_codes : List ℕ
reply_codes = 0 ∷ 1 ∷ 2 ∷ 3 ∷ 4 ∷ 5 ∷ 6 ∷ 7 ∷ 11 ∷ 12 ∷ 13 ∷ 14 ∷ 15 ∷ 17 ∷ []

abbrev pub is_one_of : ℕ → List ℕ → Bool
is_one_of c [] = false
is_one_of c (d ∷ ds) = eqb c d || is_one_of c ds

abbrev pub Listed : ℕ → Type 0
Listed c = T (is_one_of c reply_codes)

-- a run that ends in no type error, or in one whose code is listed
abbrev pub EndsListed : {A : Type 0} → Out A → Type 0
EndsListed (done a l n) = Unit {0}
EndsListed (fail e l) = Listed (error_code e.error)
EndsListed stop = Unit {0}
