-- "1, 2, 3 are tried in that order; then one reading from left to right": how a reply comes about, and what it is once neither 1 nor 2 is given.
use mathlib.Core.Path.{◌≡◌, refl, ap, ◌∙◌}
use mathlib.Core.Bool.{Bool, true, false, ◌||◌}
use mathlib.Core.Logic.{◌≢◌}
use mathlib.Core.List.{List, [], ◌∷◌}
use Prim.Native.Nat.{ℕ, zero, suc, ◌≤◌}
use native.Mathlib.Omega.{arith}
use native.Mathlib.Nat.{not-suc-le-zero}
use lib.ListN.{length}
use lib.Dec.{ltb, eqb}
use mir.Facts.{no_eqb, no_ltb}
use borrow.Author.Tests.{ltb-false, eqb-false}
use Rattle.definition.specs.Syntax.{pick}
use Rattle.definition.specs.Question.{Read, got, fault, Question, read_question, question_computes}
use Rattle.definition.specs.Reply.{Reply, refusal, read_reply, work_words, reply}
use Rattle.laws.specs.OtherBudgets.{Allowed, reply_with}
use Rattle.laws.specs.Count.{IsRun}
use Rattle.laws.proofs.Steps.{is_false, neither}

-- ## The test for a number outside of 1 to high

pub within : {high x : ℕ} → 1 ≤ x → x ≤ high → (eqb x 0 || ltb high x) ≡ false
within {high} {x} h k =
    let p : x ≢ 0 = λ e. not-suc-le-zero (rw e at h) in
    ap (◌|| ltb high x) (is_false (eqb x 0) (no_eqb p)) ∙ is_false (ltb high x) (no_ltb k)

positive : (n : ℕ) → n ≢ 0 → 1 ≤ n
positive zero h = absurd (h refl)
positive (suc n) h = omega arith

is_within : {high x : ℕ} → (eqb x 0 || ltb high x) ≡ false → (1 ≤ x) × (x ≤ high)
is_within {high} {x} e = let (z, h) = neither (eqb x 0) (ltb high x) e in (positive x (eqb-false x 0 z), ltb-false high x h)

-- ## The tests

-- what the reply is when neither 1 nor 2 is given
abbrev pub from_three : ℕ → ℕ → List ℕ → Reply
from_three budget room ws = pick (eqb (length ws) 0 || ltb 2048 (length ws)) (refusal 3 0 0) (read_reply budget room (read_question ws))

pub allowed_reply : {budget work : ℕ} (room : ℕ) (ws : List ℕ) → Allowed budget work → reply budget work room ws ≡ from_three budget room ws
unfolding reply pick
allowed_reply {budget} {work} room ws a = rw (within a.low a.high, is_false (ltb work (work_words budget)) (no_ltb a.enough))

-- how a reply comes about: 1, 2, 3, or what was read
pub data Tried (budget work room : ℕ) (ws : List ℕ) : Reply → Type 0 where
  bad_budget : Tried budget work room ws (refusal 1 0 0)
  short_work : Tried budget work room ws (refusal 2 0 0)
  bad_length : Allowed budget work → Tried budget work room ws (refusal 3 0 0)
  is_read : Allowed budget work → length ws ≤ 2048 → Tried budget work room ws (read_reply budget room (read_question ws))

pub tried : (budget work room : ℕ) (ws : List ℕ) → Tried budget work room ws (reply budget work room ws)
unfolding reply pick
tried budget work room ws =
    let size : Bool = eqb (length ws) 0 || ltb 2048 (length ws) in
    let many : Bool = eqb budget 0 || ltb 8192 budget in go many refl (ltb work (work_words budget)) refl size refl
  where
    fits : (eqb budget 0 || ltb 8192 budget) ≡ false → ltb work (work_words budget) ≡ false → Allowed budget work
    fits a b = let (low, high) = is_within a in record { low = low; high = high; enough = ltb-false work (work_words budget) b }

    go : (x : Bool) → (eqb budget 0 || ltb 8192 budget) ≡ x → (y : Bool) → ltb work (work_words budget) ≡ y
        → (z : Bool) → (eqb (length ws) 0 || ltb 2048 (length ws)) ≡ z
        → Tried budget work room ws
        (pick x (refusal 1 0 0) (pick y (refusal 2 0 0) (pick z (refusal 3 0 0) (read_reply budget room (read_question ws)))))
    go true a y b z c = bad_budget
    go false a true b z c = short_work
    go false a false b true c = bad_length (fits a b)
    go false a false b false c = is_read (fits a b) (is_within c).1

-- ## A call that is run

abbrev IsGot : {A : Type 0} → Read A → Type 0
IsGot (got a p ws) = Unit {0}
IsGot (fault c p) = ⊥

is_got : {A : Type 0} (r : Read A) {a : A} {p : ℕ} {ws : List ℕ} → r ≡ got a p ws → IsGot r
is_got r e = rw e tt

some_words : {q : Question} {p : ℕ} {rest : List ℕ} (ws : List ℕ) → read_question ws ≡ got q p rest → 1 ≤ length ws
unfolding question_computes
some_words [] e = absurd (is_got (read_question []) e)
some_words (w ∷ ws) e = omega arith

-- the reply to a call that is run is its question's, with that budget and room
pub run_reply : {budget work : ℕ} {ws : List ℕ} {q : Question} → IsRun budget work ws q → (room : ℕ)
    → reply budget work room ws ≡ reply_with budget room q
unfolding reply_with read_reply pick
run_reply {ws = ws} a room = rw (allowed_reply room ws a.allowed, within (some_words ws a.read) a.few, a.read)
