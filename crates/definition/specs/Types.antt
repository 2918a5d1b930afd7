-- is_mono, free_vars, occurs_check, subst_type and apply_ctx_type, after 000, with their charges.
use Rattle.std.specs.Prelude.{ℕ, zero, suc, Bool, true, false, not, ◌&&◌, ◌||◌, eqb}
use Rattle.std.proofs.Math.Option.{Option, none, some}
use Rattle.definition.specs.Syntax.{pick, TyVar, Ty, int, bool, var, etvar, arrow, forall, Ctx}
use Rattle.definition.specs.Run.{run_computes, M, ◌>>=◌, give, halt, charge}
use Rattle.definition.specs.Contexts.{contexts_compute, k_setvar, find}

unfoldable pub same_name : TyVar → TyVar → Bool
same_name a b = eqb a.number b.number

unfoldable pub is_mono : Ty → Bool
is_mono int = true
is_mono bool = true
is_mono (var a) = true
is_mono (etvar a) = true
is_mono (arrow A B) = is_mono A && is_mono B
is_mono (forall a A) = false

-- ---- "Var and ETVar of one name count alike in subst_type, free_vars and occurs_check."

-- occurs_check, and "HashSet: a yes or no for one name": whether free_vars has it
unfoldable pub occurs : TyVar → Ty → Bool
occurs a int = false
occurs a bool = false
occurs a (var b) = same_name b a
occurs a (etvar b) = same_name b a
occurs a (arrow A B) = occurs a A || occurs a B
occurs a (forall b A) = not (same_name b a) && occurs a A

-- "subst_type one per call", recursive ones too (reading 15): R for a in a type
unfoldable pub subst : TyVar → Ty → Ty → M Ty
subst a R int = do u ← charge 1; give int
subst a R bool = do u ← charge 1; give bool
subst a R (var b) = do u ← charge 1; give (pick (same_name b a) R (var b))
subst a R (etvar b) = do u ← charge 1; give (pick (same_name b a) R (etvar b))
subst a R (arrow A B) = do u ← charge 1; A' ← subst a R A; B' ← subst a R B; give (arrow A' B')
subst a R (forall b A) = do
  u ← charge 1
  pick (same_name b a) (give (forall b A)) (do A' ← subst a R A; give (forall b A'))

-- ---- "Context application is charged one for every call of apply_ctx_type_once in its first pass, followed solutions included; .."
-- "Later passes of apply_ctx_type change nothing, so they aren't charged; prove that." (laws, LaterPasses)

unfoldable pub solution_or : Ty → (Ty → M Ty) → Option Ty → M Ty
solution_or A follow none = give A
solution_or A follow (some B) = follow B

unfoldable pub apply_step : Ctx → (Ty → M Ty) → Ty → M Ty
apply_step Γ once int = give int
apply_step Γ once bool = give bool
apply_step Γ once (var a) = give (var a)
apply_step Γ once (etvar a) = solution_or (etvar a) once (find (k_setvar a) Γ)
apply_step Γ once (arrow A B) = do A' ← once A; B' ← once B; give (arrow A' B')
apply_step Γ once (forall a A) = do A' ← once A; give (forall a A')

-- to a depth; every call is charged, so the budget left is depth enough. "A solution that leads back to itself therefore ends in 6." (laws, Rings)
unfoldable pub apply_to : ℕ → Ctx → Ty → M Ty
apply_to zero Γ A = halt
apply_to (suc d) Γ A = do u ← charge 1; apply_step Γ (λ B l n. apply_to d Γ B l n) A

unfoldable pub apply : Ctx → Ty → M Ty
apply Γ A l n = apply_to l Γ A l n

-- `unfolding types_compute` opens every definition above, and those they rest on
unfoldable pub types_compute : Unit {0}
unfolding same_name is_mono occurs subst solution_or apply_step apply_to apply contexts_compute run_computes
types_compute = tt
