-- "Later passes of apply_ctx_type change nothing, so they aren't charged; prove that": what a pass gives has no unknown that the context
-- solves, and a pass over such a type gives it back.
use mathlib.Core.Path.{◌≡◌, refl, ap, ◌∙◌}
use Prim.Native.Nat.{ℕ, zero, suc, ◌+◌, ◌-◌, ◌≤◌}
use native.Mathlib.Omega.{arith}
use native.Mathlib.Nat.{not-suc-le-zero, lt_of_not-le}
use native.Mathlib.Decide.{dec_le}
use mathlib.Core.Option.{Option, none, some}
use Rattle.definition.specs.Syntax.{Ty, int, bool, var, etvar, arrow, forall, Ctx}
use Rattle.definition.specs.Run.{Out, done, fail, stop, M, and_then, ◌>>=◌, give, halt, charge}
use Rattle.definition.specs.Contexts.{k_setvar, find}
use Rattle.definition.specs.Types.{solution_or, apply_step, apply_to, apply}
use Rattle.laws.proofs.Steps.{charge_yes, charge_no, bind_done}

-- every unknown of A is unsolved in Γ
abbrev pub Normal : Ctx → Ty → Type 0
Normal Γ int = Unit {0}
Normal Γ bool = Unit {0}
Normal Γ (var a) = Unit {0}
Normal Γ (etvar a) = find (k_setvar a) Γ ≡ none
Normal Γ (arrow A B) = Normal Γ A × Normal Γ B
Normal Γ (forall a A) = Normal Γ A

-- whatever a run gives is such, and it refuses nothing
abbrev pub GivesOnly : {A : Type 0} → (A → Type 0) → Out A → Type 0
GivesOnly P (done a l n) = P a
GivesOnly P (fail e l) = ⊥
GivesOnly P stop = Unit {0}

abbrev pub AlwaysGives : {A : Type 0} → (A → Type 0) → M A → Type 0
AlwaysGives P m = (l n : ℕ) → GivesOnly P (m l n)

and_then_holds : {A B : Type 0} (P : A → Type 0) (Q : B → Type 0) (o : Out A) (f : A → M B) → GivesOnly P o → ((a : A) → P a → AlwaysGives Q (f a))
    → GivesOnly Q (and_then o f)
unfolding and_then
and_then_holds P Q (done a l n) f p h = h a p l n
and_then_holds P Q (fail e l) f p h = absurd p
and_then_holds P Q stop f p h = tt

bind_gives : {A B : Type 0} (P : A → Type 0) (Q : B → Type 0) (m : M A) (f : A → M B) → AlwaysGives P m → ((a : A) → P a → AlwaysGives Q (f a))
    → AlwaysGives Q (m >>= f)
unfolding ◌>>=◌
bind_gives P Q m f hm hf l n = and_then_holds P Q (m l n) f (hm l n) hf

pub charge_gives : (c : ℕ) → AlwaysGives (λ u. Unit {0}) (charge c)
charge_gives c l n = elim (dec_le c l) [ yes h ↦ rw (charge_yes c l n h) tt | no h ↦ rw (charge_no c l n (lt_of_not-le h)) tt ]

module _ (Γ : Ctx) where
  step_normal : (ap : Ty → M Ty) → ((A : Ty) → AlwaysGives (Normal Γ) (ap A)) → (A : Ty) → AlwaysGives (Normal Γ) (apply_step Γ ap A)
  unfolding apply_step give solution_or
  step_normal ap h int l n = tt
  step_normal ap h bool l n = tt
  step_normal ap h (var a) l n = tt
  step_normal ap h (etvar a) l n = go (find (k_setvar a) Γ) refl
    where
      go : (o : Option Ty) → find (k_setvar a) Γ ≡ o → GivesOnly (Normal Γ) (solution_or (etvar a) ap o l n)
      go none e = e
      go (some A) e = h A l n
  step_normal ap h (arrow A B) l n =
      bind_gives (Normal Γ) (Normal Γ) (ap A) _ (h A)
      (λ A' p. bind_gives (Normal Γ) (Normal Γ) (ap B) _ (h B) (λ B' q l n. (p, q))) l n
  step_normal ap h (forall a A) l n = bind_gives (Normal Γ) (Normal Γ) (ap A) _ (h A) (λ A' p l n. p) l n

  pub apply_to_normal : (d : ℕ) (A : Ty) → AlwaysGives (Normal Γ) (apply_to d Γ A)
  unfolding apply_to halt
  apply_to_normal zero A = λ l n. tt
  apply_to_normal (suc d) A =
      bind_gives (λ u. Unit {0}) (Normal Γ) (charge 1) _ (charge_gives 1)
      (λ u t. step_normal (λ B l n. apply_to d Γ B l n) (apply_to_normal d) A)

  -- the calls that a pass over a normal type makes
  unfoldable pub calls : Ty → ℕ
  calls int = 1
  calls bool = 1
  calls (var a) = 1
  calls (etvar a) = 1
  calls (arrow A B) = 1 + calls A + calls B
  calls (forall a A) = 1 + calls A

  -- a pass over a normal type changes nothing
  normal_same : (d : ℕ) (A : Ty) (k n : ℕ) → Normal Γ A → calls A ≤ d → apply_to d Γ A (calls A + k) n ≡ done A k n
  unfolding apply_to calls apply_step give solution_or
  normal_same zero int k n p h = absurd (not-suc-le-zero h)
  normal_same zero bool k n p h = absurd (not-suc-le-zero h)
  normal_same zero (var a) k n p h = absurd (not-suc-le-zero h)
  normal_same zero (etvar a) k n p h = absurd (not-suc-le-zero h)
  normal_same zero (arrow A B) k n p h = let z : ⊥ = omega arith in absurd z
  normal_same zero (forall a A) k n p h = let z : ⊥ = omega arith in absurd z
  normal_same (suc d) int k n p h = bind_done (charge 1) _ _ n (charge_yes 1 (1 + k) n (omega arith)) ∙ ap (λ z. done int z n) (omega arith)
  normal_same (suc d) bool k n p h = bind_done (charge 1) _ _ n (charge_yes 1 (1 + k) n (omega arith)) ∙ ap (λ z. done bool z n) (omega arith)
  normal_same (suc d) (var a) k n p h = bind_done (charge 1) _ _ n (charge_yes 1 (1 + k) n (omega arith)) ∙ ap (λ z. done (var a) z n) (omega arith)
  normal_same (suc d) (etvar a) k n p h = rw p (bind_done (charge 1) _ _ n (charge_yes 1 (1 + k) n (omega arith)) ∙ ap (λ z. done (etvar a) z n) (omega arith))
  normal_same (suc d) (arrow A B) k n p h =
      let e : 1 + calls A + calls B + k - 1 ≡ calls A + (calls B + k) = omega arith in
      bind_done (charge 1) _ _ n (charge_yes 1 (1 + calls A + calls B + k) n (omega arith))
      ∙ rw e (bind_done (λ l n. apply_to d Γ A l n) _ _ n (normal_same d A (calls B + k) n p.0 (omega arith))
      ∙ bind_done (λ l n. apply_to d Γ B l n) _ _ n (normal_same d B k n p.1 (omega arith)))
  normal_same (suc d) (forall a A) k n p h =
      let e : 1 + calls A + k - 1 ≡ calls A + k = omega arith in
      bind_done (charge 1) _ _ n (charge_yes 1 (1 + calls A + k) n (omega arith))
      ∙ rw e (bind_done (λ l n. apply_to d Γ A l n) _ _ n (normal_same d A k n p (omega arith)))

  -- what a pass has given, a further pass gives again, at any budget that is enough for it
  pub later_pass : (A B : Ty) (l n l' n' k : ℕ) → apply Γ A l n ≡ done B l' n' → apply Γ B (calls B + k) n ≡ done B k n
  unfolding apply
  later_pass A B l n l' n' k e =
      let p : Normal Γ B = rw e at (apply_to_normal l A l n) in
      normal_same (calls B + k) B k n p (omega arith)
