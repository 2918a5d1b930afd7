-- The count of a run: there is one at most, and any budget that is enough tells it. 6 is given exactly where there is none or it passes the
-- budget; else it is the reply's units.
use mathlib.Core.Path.{◌≡◌, refl, sym, ap, ◌∙◌}
use mathlib.Core.Logic.{◌↔◌, ◌≢◌}
use mathlib.Core.Option.{Option, none, some, none-ne-some, some-ne-none}
use Prim.Native.Nat.{ℕ, ◌-◌, ◌≤◌, ◌<◌}
use native.Mathlib.Omega.{arith}
use native.Mathlib.Nat.{lt_of_not-le, le_refl}
use native.Mathlib.Decide.{dec_le}
use mathlib.Core.List.{List}
use lib.Dec.{leb}
use mir.Facts.{yes_leb, no_leb}
use Rattle.definition.specs.Syntax.{Judgement}
use Rattle.definition.specs.Question.{Question}
use Rattle.definition.specs.Run.{Out, done, fail, stop, M, and_then, ◌>>=◌, give, refuse, charge}
use Rattle.definition.specs.Rules.{Result, Here, judge}
use Rattle.definition.specs.Reply.{Reply, refusal, reported, error_code, answer, out_reply, reply}
use Rattle.laws.specs.OtherBudgets.{reply_with}
use Rattle.laws.specs.Count.{charged, up_to, Count, count_to, Passes, IsRun}
use Rattle.laws.proofs.Steps.{is_true, is_false, pick_true, pick_false, pick_has, charge_then}
use Rattle.laws.proofs.Codes.{error}
use Rattle.laws.proofs.Tried.{run_reply}
use Rattle.laws.proofs.Budgets.{late, Steady, smaller, judge_steady, answer_steady}

-- ## A count as far as a budget goes

enough : (l u : ℕ) → u ≤ l → up_to l (some u) ≡ some u
unfolding up_to
enough l u h = pick_true _ _ (is_true (leb u l) (yes_leb h))

passed : (l : ℕ) (c : Option ℕ) → Passes c l → up_to l c ≡ none
unfolding up_to
passed l none h = refl
passed l (some u) h = pick_false _ _ (is_false (leb u l) (no_leb h))

passes : (l : ℕ) (c : Option ℕ) → up_to l c ≡ none → Passes c l
passes l none e = tt
passes l (some u) e = elim (dec_le u l) [ yes h ↦ absurd (some-ne-none u (sym (enough l u h) ∙ e)) | no h ↦ lt_of_not-le h ]

-- a count that l is enough for, as far as more goes
further : (l l' u : ℕ) (c : Option ℕ) → l ≤ l' → up_to l c ≡ some u → c ≡ up_to l' (some u)
unfolding up_to
further l l' u none h e = absurd (none-ne-some u e)
further l l' u (some v) h e =
    elim (dec_le v l) [
      | yes i ↦ let s : some v ≡ some u = sym (enough l v i) ∙ e in sym (enough l' v (omega arith)) ∙ ap (up_to l') s
      | no i ↦ absurd (none-ne-some u (sym (passed l (some v) (lt_of_not-le i)) ∙ e))
    ]

-- ## A run has one count at most

same_count : (c c' : Option ℕ) → ((l : ℕ) → up_to l c ≡ up_to l c') → c ≡ c'
unfolding up_to
same_count none none e = refl
same_count none (some u) e = absurd (none-ne-some u (e u ∙ enough u u (le_refl u)))
same_count (some u) c' e =
    let z : up_to u (some u) ≡ some u = enough u u (le_refl u) in
    sym z ∙ sym (further u u u c' (le_refl u) (sym (e u) ∙ z))

pub one_count : {A : Type 0} {m : M A} {n : ℕ} {c c' : Option ℕ} → Count m n c → Count m n c' → c ≡ c'
one_count {c = c} {c'} h h' = same_count c c' (λ l. sym (h.at l) ∙ h'.at l)

-- ## What one budget is charged tells the count

charged_late : {A : Type 0} (l k : ℕ) (o : Out A) → l ≤ k → charged l (late (k - l) o) ≡ up_to l (charged k o)
unfolding charged late give refuse ◌>>=◌ and_then up_to
charged_late {A} l k o h = go o
  where
    ends : (x : M A) → ((r n : ℕ) → charged l (x r n) ≡ some (l - r)) → (r n : ℕ)
        → charged l ((charge (k - l) >>= λ u. x) r n) ≡ up_to l (some (k - r))
    ends x e r n =
        charge_then (λ o. charged l o ≡ up_to l (some (k - r))) x (k - l) r n
        (λ i. let s : l - (r - (k - l)) ≡ k - r = omega arith in e (r - (k - l)) n ∙ ap some s ∙ sym (enough l (k - r) (omega arith)))
        (λ i. sym (passed l (some (k - r)) (omega arith)))

    go : (o : Out A) → charged l (late (k - l) o) ≡ up_to l (charged k o)
    go (done a r n) = ends (give a) (λ r n. refl) r n
    go (fail e r) = ends (refuse e) (λ r n. refl) r 0
    go stop = refl

charged_smaller : {A : Type 0} {m : M A} → Steady m → (l k n : ℕ) → l ≤ k → charged l (m l n) ≡ up_to l (charged k (m k n))
charged_smaller {m = m} s l k n h = rw (smaller s l k n h) (charged_late l k (m k n) h)

count_from : {A : Type 0} {m : M A} → Steady m → (l n u : ℕ) → charged l (m l n) ≡ some u → Count m n (some u)
count_from {m = m} s l n u e = record {
  at = λ k. elim (dec_le k l) [
    | yes h ↦ charged_smaller s k l n h ∙ ap (up_to k) e
    | no h ↦ let i : l < k = lt_of_not-le h in further l k u (charged k (m k n)) (omega arith) (sym (charged_smaller s l k n (omega arith)) ∙ e)
  ];
}

-- a question's, and each judgement's
pub question_counted : (q : Question) (most u : ℕ) → count_to most q ≡ some u → Count (answer q) 0 (some u)
unfolding count_to
question_counted q most u e = count_from (answer_steady q) most 0 u e

pub judgement_counted : (h : Here) (j : Judgement) (l n u : ℕ) → charged l (judge h j l n) ≡ some u → Count (judge h j) n (some u)
judgement_counted h j = count_from (judge_steady h j)

-- a run that ends at no budget has none
pub no_count : {A : Type 0} {m : M A} {n : ℕ} → ((l : ℕ) → m l n ≡ stop) → Count m n none
unfolding charged up_to
no_count h = record { at = λ l. rw (h l) }

-- ## A run is out of budget exactly where there is none or it passes the budget

out : {A : Type 0} (l : ℕ) (o : Out A) → charged l o ≡ none → o ≡ stop
unfolding charged
out l (done a r n) e = absurd (some-ne-none _ e)
out l (fail x r) e = absurd (some-ne-none _ e)
out l stop e = refl

pub out_exactly_past_count : {A : Type 0} {m : M A} {n : ℕ} {c : Option ℕ} → Count m n c → (l : ℕ) → (m l n ≡ stop) ↔ Passes c l
unfolding charged
out_exactly_past_count {m = m} {n} {c} h l =
    (λ e. passes l c (sym (h.at l) ∙ ap (charged l) e), λ p. out l (m l n) (h.at l ∙ passed l c p))

-- ## Replies

-- the reply R to a run that was charged c of the budget b
data ReplyTo (b : ℕ) (R : Reply) : Option ℕ → Type 0 where
  six : R ≡ refusal 6 0 b → ReplyTo b R none
  other : {u : ℕ} → R.code ≢ 6 → R.units ≡ u → ReplyTo b R (some u)

reported_told : (b room c p u : ℕ) (ws : List ℕ) → c ≢ 6 → ReplyTo b (reported room c p u ws) (some u)
unfolding reported
reported_told b room c p u ws h = pick_has (λ R. ReplyTo b R (some u)) _ (other h refl) (other (λ e. omega (arith, e)) refl)

told : (kind b room : ℕ) (o : Out Result) → ReplyTo b (out_reply kind b room o) (charged b o)
unfolding out_reply charged
told kind b room (done r l n) = reported_told b room 0 0 (b - l) _ (λ e. omega (arith, e))
told kind b room (fail e l) = reported_told b room (error_code e.error) _ (b - l) _ (λ x. omega (arith, (error e.error).least, x))
told kind b room stop = six refl

-- ## Questions

told_reply : {b w : ℕ} {ws : List ℕ} {q : Question} → IsRun b w ws q → (room : ℕ) → ReplyTo b (reply b w room ws) (charged b (answer q b 0))
unfolding reply_with
told_reply {b} {q = q} a room = rw (run_reply a room) (told q.kind b room (answer q b 0))

exactly : {b : ℕ} {R : Reply} {u : Option ℕ} → ReplyTo b R u → (c : Option ℕ) → u ≡ up_to b c
    → (R.code ≡ 6 → Passes c b) × (Passes c b → R ≡ refusal 6 0 b)
exactly {b} (six r) c e = (λ _. passes b c (sym e), λ _. r)
exactly {b} (other {u} h r) c e = (λ k. absurd (h k), λ p. absurd (some-ne-none u (e ∙ passed b c p)))

-- "6 Budget: the next charge would pass the budget"
pub six_exactly_past_count : {budget work : ℕ} {ws : List ℕ} {q : Question} → IsRun budget work ws q → {c : Option ℕ} → Count (answer q) 0 c
    → (room : ℕ)
    → ((reply budget work room ws).code ≡ 6 → Passes c budget) × (Passes c budget → reply budget work room ws ≡ refusal 6 0 budget)
six_exactly_past_count {budget} a {c} h room = exactly (told_reply a room) c (h.at budget)

-- the same of a count that computes, as far as any bound that the budget is within: no question is left out
pub six_exactly_past_count_to : {budget work : ℕ} {ws : List ℕ} {q : Question} → IsRun budget work ws q → (most : ℕ) → budget ≤ most → (room : ℕ)
    → ((reply budget work room ws).code ≡ 6 → Passes (count_to most q) budget)
    × (Passes (count_to most q) budget → reply budget work room ws ≡ refusal 6 0 budget)
unfolding count_to
six_exactly_past_count_to {budget} {q = q} a most h room =
    exactly (told_reply a room) (count_to most q) (charged_smaller (answer_steady q) budget most 0 h)

units : {b : ℕ} {R : Reply} {u : Option ℕ} → ReplyTo b R u → R.code ≢ 6 → u ≡ some R.units
unfolding refusal
units (six r) h = absurd (h (ap (λ R. R.code) r))
units (other k r) h = ap some (sym r)

-- "Units equal this count in the definition."
pub units_are_the_count : {budget work : ℕ} {ws : List ℕ} {q : Question} → IsRun budget work ws q → (room : ℕ)
    → (reply budget work room ws).code ≢ 6 → Count (answer q) 0 (some (reply budget work room ws).units)
units_are_the_count {budget} {q = q} a room h = count_from (answer_steady q) budget 0 _ (units (told_reply a room) h)
