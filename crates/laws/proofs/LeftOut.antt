-- Order 5's sentences with a condition left out: an example shows of each that it does not hold then. The question is case (a), which is charged
-- 2 units and has a report of 13 words. And 16 alone is struck.
use mathlib.Core.Path.{◌≡◌, refl, ap}
use mathlib.Core.Logic.{◌↔◌, ◌≢◌}
use mathlib.Core.Bool.{not}
use mathlib.Core.List.{List, [], ◌∷◌, map}
use Prim.Native.Nat.{ℕ, ◌≤◌}
use lib.Dec.{T, eqb, lit≤}
use mir.Facts.{eqb_no}
use Rattle.definition.specs.Syntax.{infer, lit_int}
use Rattle.definition.specs.Question.{Question, plain}
use Rattle.definition.specs.Reply.{work_words, reply, reply_computes}
use Rattle.laws.specs.Codes.{reply_codes}
use Rattle.laws.specs.OtherBudgets.{Allowed, Settled, reply_with}
use Rattle.laws.proofs.OtherBudgets.{code_of, settled_allowed, same_at_larger_budget}

abbrev one : List ℕ
one = 7 ∷ 0 ∷ 0 ∷ 3 ∷ 22 ∷ 1 ∷ 0 ∷ 0 ∷ 0 ∷ []

apart : (a b : ℕ) → T (not (eqb a b)) → a ≢ b
apart a b t = eqb_no t

-- ## "with any code except 1, 2 and 6, gets the same reply at every larger one that document 01 allows, given the same report slice and enough work"

-- the sentence, by what it asks of the code, and of the two rooms, the larger budget and its work
abbrev Sentence : (ℕ → Type 0) → (ℕ → ℕ → ℕ → ℕ → Type 0) → Type 0
Sentence Code Sizes =
    (budget work room : ℕ) (q : List ℕ) → Code (reply budget work room q).code → (budget' work' room' : ℕ) → budget ≤ budget'
    → Sizes room room' budget' work' → reply budget' work' room' q ≡ reply budget work room q

abbrev AsAsked : ℕ → ℕ → ℕ → ℕ → Type 0
AsAsked room room' budget' work' = (room' ≡ room) × Allowed budget' work'

-- as order 5 has it, it holds
pub as_asked : Sentence Settled AsAsked
as_asked budget work room q s budget' work' room' h z =
    rw z.0 (same_at_larger_budget budget work room q (settled_allowed budget work room q s) s.not_6 z.1 h)

allowed : Allowed 2 4160
unfolding work_words
allowed = record { low = lit≤ tt; high = lit≤ tt; enough = lit≤ tt }

settled : Settled 0
settled = record { not_1 = apart 0 1 tt; not_2 = apart 0 2 tt; not_6 = apart 0 6 tt }

-- 7 is among the codes that stay
pub seven_stays : (budget work : ℕ) → Allowed budget work → 2 ≤ budget
    → reply budget work 12 one ≡ record { code = 7; at = 0; len = 13; units = 2; report = [] }
unfolding reply_computes
seven_stays budget work a h =
    as_asked 2 4160 12 one (record { not_1 = apart 7 1 tt; not_2 = apart 7 2 tt; not_6 = apart 7 6 tt }) budget work 12 h (refl, a)

-- with 1, with 2, with 6 among the codes
pub with_1 : Sentence (λ c. (c ≢ 2) × (c ≢ 6)) AsAsked → ⊥
unfolding reply_computes
with_1 h = apart 0 1 tt (ap code_of (h 0 4160 13 one (apart 1 2 tt, apart 1 6 tt) 2 4160 13 (lit≤ tt) (refl, allowed)))

pub with_2 : Sentence (λ c. (c ≢ 1) × (c ≢ 6)) AsAsked → ⊥
unfolding reply_computes
with_2 h = apart 0 2 tt (ap code_of (h 2 4159 13 one (apart 2 1 tt, apart 2 6 tt) 2 4160 13 (lit≤ tt) (refl, allowed)))

pub with_6 : Sentence (λ c. (c ≢ 1) × (c ≢ 2)) AsAsked → ⊥
unfolding reply_computes
with_6 h = apart 0 6 tt (ap code_of (h 1 4160 13 one (apart 6 1 tt, apart 6 2 tt) 2 4160 13 (lit≤ tt) (refl, allowed)))

-- with another room, with less work, with a budget past 8,192
pub other_room : Sentence Settled (λ room room' budget' work'. Allowed budget' work') → ⊥
unfolding reply_computes
other_room h = apart 7 0 tt (ap code_of (h 2 4160 13 one settled 2 4160 12 (lit≤ tt) allowed))

pub less_work : Sentence Settled (λ room room' budget' work'. (room' ≡ room) × (budget' ≤ 8192)) → ⊥
unfolding reply_computes
less_work h = apart 2 0 tt (ap code_of (h 2 4160 13 one settled 3 4160 13 (lit≤ tt) (refl, lit≤ tt)))

pub past_8192 : Sentence Settled (λ room room' budget' work'. (room' ≡ room) × (work_words budget' ≤ work')) → ⊥
unfolding reply_computes
past_8192 h = apart 1 0 tt (ap code_of (h 2 4160 13 one settled 8193 266272 13 (lit≤ tt) (refl, lit≤ tt)))

-- "6 exactly where the budget is less than this reply's units", and not where it is no more than these
pub up_to_units : ((budget work room : ℕ) (q : List ℕ) → Settled (reply budget work room q).code → (budget' work' : ℕ) → Allowed budget' work'
    → ((reply budget' work' room q).code ≡ 6) ↔ (budget' ≤ (reply budget work room q).units)) → ⊥
unfolding reply_computes
up_to_units h = apart 0 6 tt ((h 2 4160 13 one settled 2 4160 allowed).1 (lit≤ tt))

-- ## With enough budget and room: one reply at most

abbrev asked : Question
asked = record { kind = 7; manner = plain; asks = infer [] (lit_int 4 1 0) }

-- by what is asked of the codes in the place of "neither 6 nor 7"
abbrev OneAtMost : (ℕ → Type 0) → Type 0
OneAtMost Code =
    (q : Question) (budget room budget' room' : ℕ) → Code (reply_with budget room q).code → Code (reply_with budget' room' q).code
    → reply_with budget room q ≡ reply_with budget' room' q

pub two_with_6 : OneAtMost (λ c. c ≢ 7) → ⊥
unfolding reply_with reply_computes
two_with_6 h = apart 6 0 tt (ap code_of (h asked 1 13 2 13 (apart 6 7 tt) (apart 0 7 tt)))

pub two_with_7 : OneAtMost (λ c. c ≢ 6) → ⊥
unfolding reply_with reply_computes
two_with_7 h = apart 7 0 tt (ap code_of (h asked 2 12 2 13 (apart 7 6 tt) (apart 0 6 tt)))

-- ## "no question in either mode draws 16": every other code is drawn, 8 of the telephone host (`telephone`, Cases)

pub others_drawn : map (λ (b, w, r, q). (reply b w r q).code)
    ((2, 4160, 13, one)
    ∷ (0, 4160, 13, one)
    ∷ (2, 4159, 13, one)
    ∷ (2, 4160, 13, [])
    ∷ (2, 4160, 13, 8 ∷ [])
    ∷ (2, 4160, 13, 7 ∷ 0 ∷ 0 ∷ 2 ∷ 16 ∷ 1_000_000 ∷ 0 ∷ 0 ∷ [])
    ∷ (1, 4160, 13, one)
    ∷ (2, 4160, 12, one)
    ∷ (99, 7264, 99, 7 ∷ 0 ∷ 0 ∷ 2 ∷ 16 ∷ 5 ∷ 0 ∷ 0 ∷ [])
    ∷ (99, 7264, 99, 7 ∷ 0 ∷ 0 ∷ 7 ∷ 17 ∷ 22 ∷ 1 ∷ 0 ∷ 22 ∷ 2 ∷ 0 ∷ 0 ∷ 0 ∷ [])
    ∷ (99, 7264, 99, 7 ∷ 0 ∷ 0 ∷ 5 ∷ 19 ∷ 22 ∷ 1 ∷ 0 ∷ 1 ∷ 0 ∷ 0 ∷ [])
    ∷ (99, 7264, 99, 5 ∷ 0 ∷ 0 ∷ 0 ∷ 2 ∷ 4 ∷ 1 ∷ 2 ∷ 3 ∷ 1 ∷ [])
    ∷ (99, 7264, 99, 7 ∷ 0 ∷ 0 ∷ 8 ∷ 25 ∷ 23 ∷ 1 ∷ 22 ∷ 1 ∷ 0 ∷ 23 ∷ 1 ∷ 0 ∷ 0 ∷ [])
    ∷ (99, 7264, 99, 2 ∷ 1 ∷ 0 ∷ 6 ∷ 18 ∷ 5 ∷ 2 ∷ 22 ∷ 1 ∷ 0 ∷ 0 ∷ 3 ∷ 5 ∷ 1 ∷ 1 ∷ [])
    ∷ [])
    ≡ reply_codes
unfolding reply_computes
others_drawn = refl
