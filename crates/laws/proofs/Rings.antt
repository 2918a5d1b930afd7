-- "A solution that leads back to itself therefore ends in 6": an application that comes to a ring ends at no budget, so that a run that
-- comes to such an application runs out, and its question gets 6.
use mathlib.Core.Path.{◌≡◌, refl, ◌∙◌}
use Prim.Native.Nat.{ℕ, zero, suc, ◌≤◌}
use mathlib.Core.List.{List}
use mathlib.Core.Option.{none}
use Rattle.definition.specs.Syntax.{TyVar, Ty, int, bool, var, etvar, arrow, forall, Ctx}
use Rattle.definition.specs.Question.{Question}
use Rattle.definition.specs.Run.{Out, done, fail, stop, M, and_then, ◌>>=◌, charge, halt}
use Rattle.definition.specs.Types.{solution_or, apply_step, apply_to, apply}
use Rattle.definition.specs.Rules.{Result}
use Rattle.definition.specs.Reply.{refusal, reply, answer}
use Rattle.laws.specs.Count.{charged, Count, count_to, Passes, IsRun}
use Rattle.laws.specs.Rings.{Leads, here, follow, left, right, under, Ring, Applies, itself, first, after, judging}
use Rattle.laws.proofs.Steps.{bind_done, bind_stop}
use Rattle.laws.proofs.Depth.{judge_eq}
use Rattle.laws.proofs.LaterPasses.{Normal, GivesOnly, charge_gives, apply_to_normal}
use Rattle.laws.proofs.Count.{no_count, six_exactly_past_count_to}

-- ## Application

then_stops : {A B : Type 0} (P : A → Type 0) (o : Out A) (f : A → M B) → GivesOnly P o → ((a : A) (l n : ℕ) → f a l n ≡ stop)
    → and_then o f ≡ stop
unfolding and_then
then_stops P (done a l n) f p h = h a l n
then_stops P (fail e l) f p h = absurd p
then_stops P stop f p h = refl

module _ {Γ : Ctx} {a : TyVar} (ring : Ring Γ a) where
  abbrev Stops : (Ty → M Ty) → Type 0
  Stops once = (A : Ty) → Leads Γ a A → (l n : ℕ) → once A l n ≡ stop

  step_stops : (d : ℕ) → Stops (λ B. apply_to d Γ B) → Stops (apply_step Γ (λ B l n. apply_to d Γ B l n))
  unfolding apply_step solution_or ◌>>=◌ and_then
  step_stops d h int q l n = elim q [ ]
  step_stops d h bool q l n = elim q [ ]
  step_stops d h (var b) q l n = elim q [ ]
  step_stops d h (etvar b) here l n = rw ring.solved (h ring.solution ring.back l n)
  step_stops d h (etvar b) (follow {B} e q) l n = rw e (h B q l n)
  step_stops d h (arrow A B) (left q) l n = rw (h A q l n)
  step_stops d h (arrow A B) (right q) l n = then_stops (Normal Γ) (apply_to d Γ A l n) _ (apply_to_normal Γ d A l n) (λ A' l n. rw (h B q l n))
  step_stops d h (forall b A) (under q) l n = rw (h A q l n)

  apply_to_stops : (d : ℕ) → Stops (λ B. apply_to d Γ B)
  unfolding apply_to halt ◌>>=◌
  apply_to_stops zero A q l n = refl
  apply_to_stops (suc d) A q l n = then_stops _ (charge 1 l n) _ (charge_gives 1 l n) (λ u. step_stops d (apply_to_stops d) A q)

  application_never_ends : Stops (apply Γ)
  unfolding apply
  application_never_ends A q l n = apply_to_stops l A q l n

pub application_has_no_count : {Γ : Ctx} {a : TyVar} {A : Ty} → Ring Γ a → Leads Γ a A → (n : ℕ) → Count (apply Γ A) n none
application_has_no_count {A = A} ring leads n = no_count (λ l. application_never_ends ring A leads l n)

-- ## Runs

run_out : {Γ : Ctx} {a : TyVar} {A : Ty} → Ring Γ a → Leads Γ a A → {B : Type 0} {x : M B} {l n : ℕ} → Applies Γ A B x l n → x l n ≡ stop
run_out {A = A} ring leads {l = l} {n} itself = application_never_ends ring A leads l n
run_out ring leads {l = l} {n} (first {x} f p) = bind_stop x f l n (run_out ring leads p)
run_out ring leads {l = l} {n} (after x f e p) = bind_done x f l n e ∙ run_out ring leads p
run_out ring leads {l = l} {n} (judging h j p) = judge_eq h j l n ∙ run_out ring leads p

-- ## Questions

-- with the budget l the run comes to the ring: neither l nor a smaller budget is enough
pub ring_has_no_count : {Γ : Ctx} {a : TyVar} {A : Ty} → Ring Γ a → Leads Γ a A → (q : Question) {l : ℕ} → Applies Γ A Result (answer q) l 0
    → count_to l q ≡ none
unfolding count_to charged
ring_has_no_count ring leads q applies = rw (run_out ring leads applies)

pub ring_gets_6 : {Γ : Ctx} {a : TyVar} {A : Ty} → Ring Γ a → Leads Γ a A → {q : Question} {l : ℕ} → Applies Γ A Result (answer q) l 0
    → {budget work : ℕ} {ws : List ℕ} → IsRun budget work ws q → budget ≤ l → (room : ℕ) → reply budget work room ws ≡ refusal 6 0 budget
ring_gets_6 ring leads {q} {l} applies {budget} asks h room =
    let p : Passes (count_to l q) budget = rw (ring_has_no_count ring leads q applies) tt in
    (six_exactly_past_count_to asks l h room).1 p
