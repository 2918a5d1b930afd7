-- What the definition's `subst` and `apply` are once their unit is paid.
use mathlib.Core.Path.{◌≡◌, refl, ◌∙◌}
use mathlib.Core.Bool.{true, false}
use mathlib.Core.Option.{none, some}
use Prim.Native.Nat.{ℕ, ◌-◌, ◌≤◌, ◌<◌}
use native.Mathlib.Omega.{arith}
use Rattle.definition.specs.Syntax.{pick, TyVar, Ty, int, bool, var, etvar, arrow, forall, Ctx}
use Rattle.definition.specs.Run.{done, stop, M, ◌>>=◌, give, charge}
use Rattle.definition.specs.Contexts.{k_setvar, find}
use Rattle.definition.specs.Types.{same_name, subst, solution_or, apply_step, apply}
use Rattle.definition.specs.Rules.{ty_code}
use Rattle.laws.proofs.Steps.{charge_yes, charge_no, bind_done, bind_stop}
use Rattle.laws.proofs.Depth.{apply_eq}

-- ## A run that pays one unit first

pub record PaysFirst (m m' : M Ty) : Type 0 where
  pub is : (l n : ℕ) → m l n ≡ (charge 1 >>= λ u. m') l n

pub once_paid : {m m' : M Ty} (l n : ℕ) → PaysFirst m m' → 1 ≤ l → m l n ≡ m' (l - 1) n
once_paid l n e h = e.is l n ∙ bind_done (charge 1) _ l n (charge_yes 1 l n h)

pub unpaid : {m m' : M Ty} (l n : ℕ) → PaysFirst m m' → l ≡ 0 → m l n ≡ stop
unpaid l n e h = e.is l n ∙ bind_stop (charge 1) _ l n (charge_no 1 l n (omega arith))

-- ## What is done to the parts

abbrev pub on_arrow : (Ty → M Ty) → Ty → Ty → M Ty
on_arrow m A B = do A' ← m A; B' ← m B; give (arrow A' B')

abbrev pub on_forall : (Ty → M Ty) → TyVar → Ty → M Ty
on_forall m b A = do A' ← m A; give (forall b A')

module _ (f : Ty → M Ty) (A B : Ty) {m : M Ty} (l n : ℕ) (eq : PaysFirst m (on_arrow f A B)) (some : 1 ≤ l) where
  pub arrow_stop : f A (l - 1) n ≡ stop → m l n ≡ stop
  arrow_stop e = once_paid l n eq some ∙ bind_stop (f A) _ (l - 1) n e

  module _ {A' : Ty} {l₁ n₁ : ℕ} (e : f A (l - 1) n ≡ done A' l₁ n) (no : n₁ ≡ n) where
    pub arrow_stop_late : f B l₁ n₁ ≡ stop → m l n ≡ stop
    arrow_stop_late e₁ = once_paid l n eq some ∙ bind_done (f A) _ (l - 1) n e ∙ bind_stop (f B) _ l₁ n (rw no at e₁)

    pub arrow_done : {B' : Ty} {l₂ : ℕ} → f B l₁ n₁ ≡ done B' l₂ n₁ → m l n ≡ done (arrow A' B') l₂ n
    unfolding give
    arrow_done e₁ = once_paid l n eq some ∙ bind_done (f A) _ (l - 1) n e ∙ bind_done (f B) _ l₁ n (rw no at e₁)

module _ (f : Ty → M Ty) (b : TyVar) (A : Ty) {m : M Ty} (l n : ℕ) (eq : PaysFirst m (on_forall f b A)) (some : 1 ≤ l) where
  pub forall_stop : f A (l - 1) n ≡ stop → m l n ≡ stop
  forall_stop e = once_paid l n eq some ∙ bind_stop (f A) _ (l - 1) n e

  pub forall_done : {A' : Ty} {l₁ : ℕ} → f A (l - 1) n ≡ done A' l₁ n → m l n ≡ done (forall b A') l₁ n
  unfolding give
  forall_done e = once_paid l n eq some ∙ bind_done (f A) _ (l - 1) n e

-- ## Substitution

module _ (a : TyVar) (R : Ty) where
  abbrev pub subst_step : Ty → M Ty
  subst_step int = give int
  subst_step bool = give bool
  subst_step (var b) = give (pick (same_name b a) R (var b))
  subst_step (etvar b) = give (pick (same_name b a) R (etvar b))
  subst_step (arrow A B) = on_arrow (subst a R) A B
  subst_step (forall b A) = pick (same_name b a) (give (forall b A)) (on_forall (subst a R) b A)

  pub subst_eq : (T : Ty) → PaysFirst (subst a R T) (subst_step T)
  unfolding subst
  subst_eq int = record { is = λ l n. refl }
  subst_eq bool = record { is = λ l n. refl }
  subst_eq (var b) = record { is = λ l n. refl }
  subst_eq (etvar b) = record { is = λ l n. refl }
  subst_eq (arrow A B) = record { is = λ l n. refl }
  subst_eq (forall b A) = record { is = λ l n. refl }

  pub subst_plain : (T : Ty) → ty_code T < 3 → PaysFirst (subst a R T) (give T)
  unfolding ty_code
  subst_plain int h = subst_eq int
  subst_plain bool h = subst_eq bool
  subst_plain (var b) h = absurd (omega arith)
  subst_plain (etvar b) h = absurd (omega arith)
  subst_plain (arrow A B) h = absurd (omega arith)
  subst_plain (forall b A) h = absurd (omega arith)

  pub subst_shadowed : (b : TyVar) (A : Ty) → same_name b a ≡ true → PaysFirst (subst a R (forall b A)) (give (forall b A))
  unfolding pick
  subst_shadowed b A e = rw e at (subst_eq (forall b A))

  pub subst_forall : (b : TyVar) (A : Ty) → same_name b a ≡ false → PaysFirst (subst a R (forall b A)) (on_forall (subst a R) b A)
  unfolding pick
  subst_forall b A e = rw e at (subst_eq (forall b A))

-- ## Application

module _ (Γ : Ctx) where
  pub apply_paid : (T : Ty) → PaysFirst (apply Γ T) (apply_step Γ (apply Γ) T)
  apply_paid T = record { is = apply_eq Γ T }

  pub apply_plain : (T : Ty) → ty_code T < 4 → PaysFirst (apply Γ T) (give T)
  unfolding ty_code apply_step
  apply_plain int h = apply_paid int
  apply_plain bool h = apply_paid bool
  apply_plain (var b) h = apply_paid (var b)
  apply_plain (etvar b) h = absurd (omega arith)
  apply_plain (arrow A B) h = absurd (omega arith)
  apply_plain (forall b A) h = absurd (omega arith)

  pub apply_unsolved : (a : TyVar) → find (k_setvar a) Γ ≡ none → PaysFirst (apply Γ (etvar a)) (give (etvar a))
  unfolding apply_step solution_or
  apply_unsolved a e = rw e at (apply_paid (etvar a))

  pub apply_solved : (a : TyVar) (B : Ty) → find (k_setvar a) Γ ≡ some B → PaysFirst (apply Γ (etvar a)) (apply Γ B)
  unfolding apply_step solution_or
  apply_solved a B e = rw e at (apply_paid (etvar a))

  pub apply_arrow : (A B : Ty) → PaysFirst (apply Γ (arrow A B)) (on_arrow (apply Γ) A B)
  unfolding apply_step
  apply_arrow A B = apply_paid (arrow A B)

  pub apply_forall : (b : TyVar) (A : Ty) → PaysFirst (apply Γ (forall b A)) (on_forall (apply Γ) b A)
  unfolding apply_step
  apply_forall b A = apply_paid (forall b A)
