-- What application gives is paid for: a unit for each of its parts, so that its words are at most twice as many as the units.
use mathlib.Core.Path.{◌≡◌}
use Prim.Native.Nat.{ℕ, zero, suc, ◌+◌, ◌-◌, ◌*◌, ◌≤◌}
use native.Mathlib.Omega.{arith}
use mathlib.Core.Option.{Option, none, some}
use Rattle.definition.specs.Syntax.{Ty, int, bool, var, etvar, arrow, forall, Ctx}
use Rattle.definition.specs.Run.{Out, done, fail, stop, M, and_then, ◌>>=◌, give, halt}
use Rattle.definition.specs.Contexts.{k_setvar, find}
use Rattle.definition.specs.Types.{solution_or, apply_step, apply_to, apply}
use Rattle.laws.proofs.Steps.{charge_then}
use Rattle.layout.specs.Places.{size}

-- with l left before, a type that a run gives is paid for
abbrev Pays : ℕ → Out Ty → Type 0
Pays l (done A l' n) = size A + 2 * l' ≤ 2 * l
Pays l (fail e l') = Unit {0}
Pays l stop = Unit {0}

more : (l m : ℕ) (o : Out Ty) → l ≤ m → Pays l o → Pays m o
more l m (done A l' n) h p = omega arith
more l m (fail e l') h p = tt
more l m stop h p = tt

then : (l m : ℕ) (o : Out Ty) (k : Ty → M Ty) → Pays l o → ((A : Ty) (l' n : ℕ) → size A + 2 * l' ≤ 2 * l → Pays m (k A l' n)) → Pays m (and_then o k)
unfolding and_then
then l m (done A l' n) k p h = h A l' n p
then l m (fail e l') k p h = tt
then l m stop k p h = tt

module _ (Γ : Ctx) where
  -- a call, once its unit is paid
  step_pays : (once : Ty → M Ty) → ((A : Ty) (l n : ℕ) → Pays l (once A l n)) → (A : Ty) (m l n : ℕ) → 1 + l ≤ m → Pays m (apply_step Γ once A l n)
  unfolding apply_step give solution_or ◌>>=◌
  step_pays once h int m l n p = omega arith
  step_pays once h bool m l n p = omega arith
  step_pays once h (var a) m l n p = omega arith
  step_pays once h (etvar a) m l n p = by (find (k_setvar a) Γ)
    where
      by : (o : Option Ty) → Pays m (solution_or (etvar a) once o l n)
      by none = omega arith
      by (some B) = more l m (once B l n) (omega arith) (h B l n)
  step_pays once h (arrow A B) m l n p =
      then l m (once A l n) _ (h A l n) (λ A' l₁ n₁ q. then l₁ m (once B l₁ n₁) _ (h B l₁ n₁) (λ B' l₂ n₂ r. omega arith))
  step_pays once h (forall a A) m l n p = then l m (once A l n) _ (h A l n) (λ A' l₁ n₁ q. omega arith)

  apply_to_pays : (d : ℕ) (A : Ty) (l n : ℕ) → Pays l (apply_to d Γ A l n)
  unfolding apply_to halt
  apply_to_pays zero A l n = tt
  apply_to_pays (suc d) A l n =
      charge_then (Pays l) (apply_step Γ (λ B l n. apply_to d Γ B l n) A) 1 l n
      (λ h. step_pays (λ B l n. apply_to d Γ B l n) (apply_to_pays d) A l (l - 1) n (omega arith)) (λ h. tt)

  pub apply_pays : (A : Ty) (l n : ℕ) {B : Ty} {l' n' : ℕ} → apply Γ A l n ≡ done B l' n' → size B + 2 * l' ≤ 2 * l
  unfolding apply
  apply_pays A l n e = rw e at (apply_to_pays l A l n)
