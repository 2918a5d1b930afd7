-- What is done with types keeps them alike.
use mathlib.Core.Path.{◌≡◌, refl, ap₂}
use Prim.Native.Nat.{ℕ, zero, suc}
use mathlib.Core.Bool.{not, ◌&&◌, ◌||◌}
use mathlib.Core.Option.{Option}
use Rattle.definition.specs.Syntax.{TyVar, Ty, Ctx}
use Rattle.definition.specs.Run.{M}
use Rattle.definition.specs.Types.{is_mono, occurs, subst, solution_or, apply_step, apply_to, apply}
use Rattle.alike.specs.Alike.{Pairing}
use Rattle.alike.proofs.Related.{NameR, TyR, int_r, bool_r, var_r, etvar_r, arrow_r, forall_r, CtxR, OptionR, none_r, some_r, pick_r}
use Rattle.alike.proofs.Contexts.{same_name_r, k_setvar_r, find_r}
use Rattle.alike.proofs.Runs.{RunsAlike, bind_r, give_r, halt_r, charge_r}

module _ {P : Pairing} where
  pub is_mono_r : {A A' : Ty} → TyR P A A' → is_mono A ≡ is_mono A'
  unfolding is_mono
  is_mono_r int_r = refl
  is_mono_r bool_r = refl
  is_mono_r (var_r p) = refl
  is_mono_r (etvar_r p) = refl
  is_mono_r (arrow_r A B) = ap₂ ◌&&◌ (is_mono_r A) (is_mono_r B)
  is_mono_r (forall_r p A) = refl

  pub occurs_r : {a a' : TyVar} {A A' : Ty} → NameR P a a' → TyR P A A' → occurs a A ≡ occurs a' A'
  unfolding occurs
  occurs_r a int_r = refl
  occurs_r a bool_r = refl
  occurs_r a (var_r p) = same_name_r p a
  occurs_r a (etvar_r p) = same_name_r p a
  occurs_r a (arrow_r A B) = ap₂ ◌||◌ (occurs_r a A) (occurs_r a B)
  occurs_r a (forall_r p A) = ap₂ (λ x y. not x && y) (same_name_r p a) (occurs_r a A)

  pub subst_r : {a a' : TyVar} {B B' A A' : Ty} → NameR P a a' → TyR P B B' → TyR P A A' → RunsAlike P (TyR P) (subst a B A) (subst a' B' A')
  unfolding subst
  subst_r a r int_r = bind_r (charge_r refl) (λ u u' v. give_r _ _ int_r)
  subst_r a r bool_r = bind_r (charge_r refl) (λ u u' v. give_r _ _ bool_r)
  subst_r a r (var_r p) = bind_r (charge_r refl) (λ u u' v. give_r _ _ (pick_r (TyR P) (same_name_r p a) r (var_r p)))
  subst_r a r (etvar_r p) = bind_r (charge_r refl) (λ u u' v. give_r _ _ (pick_r (TyR P) (same_name_r p a) r (etvar_r p)))
  subst_r a r (arrow_r A B) =
      bind_r (charge_r refl) (λ u u' v. bind_r (subst_r a r A) (λ C C' s. bind_r (subst_r a r B) (λ D D' t. give_r _ _ (arrow_r s t))))
  subst_r a r (forall_r p A) =
      bind_r (charge_r refl) (λ u u' v.
      pick_r (RunsAlike P (TyR P)) (same_name_r p a) (give_r _ _ (forall_r p A)) (bind_r (subst_r a r A) (λ C C' s. give_r _ _ (forall_r p s))))

  -- ## Application

  module _ (once once' : Ty → M Ty) (h : (B B' : Ty) → TyR P B B' → RunsAlike P (TyR P) (once B) (once' B')) where
    solution_or_r : {A A' : Ty} {o o' : Option Ty} → TyR P A A' → OptionR (TyR P) o o'
        → RunsAlike P (TyR P) (solution_or A once o) (solution_or A' once' o')
    unfolding solution_or
    solution_or_r t none_r = give_r _ _ t
    solution_or_r t (some_r s) = h _ _ s

    apply_step_r : {Γ Γ' : Ctx} {A A' : Ty} → CtxR P Γ Γ' → TyR P A A' → RunsAlike P (TyR P) (apply_step Γ once A) (apply_step Γ' once' A')
    unfolding apply_step
    apply_step_r c int_r = give_r _ _ int_r
    apply_step_r c bool_r = give_r _ _ bool_r
    apply_step_r c (var_r p) = give_r _ _ (var_r p)
    apply_step_r c (etvar_r p) = solution_or_r (etvar_r p) (find_r (k_setvar_r p) c)
    apply_step_r c (arrow_r p q) = bind_r (h _ _ p) (λ C C' r. bind_r (h _ _ q) (λ D D' s. give_r _ _ (arrow_r r s)))
    apply_step_r c (forall_r p q) = bind_r (h _ _ q) (λ C C' r. give_r _ _ (forall_r p r))

  apply_to_r : (d : ℕ) {Γ Γ' : Ctx} {A A' : Ty} → CtxR P Γ Γ' → TyR P A A' → RunsAlike P (TyR P) (apply_to d Γ A) (apply_to d Γ' A')
  unfolding apply_to
  apply_to_r zero c t = halt_r
  apply_to_r (suc d) c t = bind_r (charge_r refl) (λ u u' v. apply_step_r _ _ (λ B B' s. record { at = λ l n. (apply_to_r d c s).at l n }) c t)

  pub apply_r : {Γ Γ' : Ctx} {A A' : Ty} → CtxR P Γ Γ' → TyR P A A' → RunsAlike P (TyR P) (apply Γ A) (apply Γ' A')
  unfolding apply
  apply_r c t = record { at = λ l n. (apply_to_r l c t).at l n }
