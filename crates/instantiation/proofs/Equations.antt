-- The rules of instantiation in the definition, each as what it comes to.
use mathlib.Core.Path.{◌≡◌, refl}
use mathlib.Core.Bool.{true, false}
use mathlib.Core.List.{◌∷◌, []}
use Prim.Native.Nat.{ℕ, suc, ◌<◌}
use native.Mathlib.Omega.{arith}
use Rattle.definition.specs.Syntax.{pick, TyVar, Ty, int, bool, var, etvar, arrow, forall, setvar_bnd, Ctx, Side, on_l, on_r, inst, leaf, ◌&◌, occurs_check}
use Rattle.definition.specs.Run.{done, fail, and_then, give, refuse, fresh, ◌>>=◌}
use Rattle.definition.specs.Contexts.{right_of, replace, before}
use Rattle.definition.specs.Types.{is_mono, occurs, apply}
use Rattle.definition.specs.Rules.{Judge, Here, ◌from◌, closes, ty_code, other, inst_solve, inst_reach, inst_arr, solve, reach, split, inst_arrow, inst_forall, inst_rule, rule}
use Rattle.layout.specs.States.{fresh_name}
use Rattle.rules.specs.Sides.{opened_ty, opened_ctx, binder}
use Rattle.instantiation.proofs.Sides.{inst_all}

-- a type without parts is a monotype
pub leaf_mono : (T : Ty) → ty_code T < 5 → is_mono T ≡ true
unfolding ty_code is_mono
leaf_mono int l = refl
leaf_mono bool l = refl
leaf_mono (var a) l = refl
leaf_mono (etvar a) l = refl
leaf_mono (arrow A B) l = absurd (omega arith)
leaf_mono (forall a A) l = absurd (omega arith)

module _ (μ : Here) (judge : Judge) (Γ : Ctx) (a : TyVar) (l n : ℕ) where
  module _ (s : Side) where
    -- a type without parts, unless it is an unknown that can be reached
    solve_is : (T : Ty) → ty_code T < 5 → ((b : TyVar) → T ≡ etvar b → before Γ a b ≡ false)
        → rule μ judge (inst s Γ a T) l n ≡ solve μ s Γ a T l n
    unfolding rule inst_rule pick ty_code
    solve_is int h f = refl
    solve_is bool h f = refl
    solve_is (var b) h f = refl
    solve_is (etvar b) h f = rw (f b refl)
    solve_is (arrow A B) h f = absurd (omega arith)
    solve_is (forall b T) h f = absurd (omega arith)

    module _ (T : Ty) (h : ty_code T < 5) (f : (b : TyVar) → T ≡ etvar b → before Γ a b ≡ false) (m : is_mono T ≡ true) where
      pub occurs_is : occurs a T ≡ true → rule μ judge (inst s Γ a T) l n ≡ fail (occurs_check a T) l
      unfolding solve pick refuse
      occurs_is e = rw (solve_is T h f, m, e)

      pub solved_is : occurs a T ≡ false
          → rule μ judge (inst s Γ a T) l n ≡ done (inst_solve s, int, replace a (setvar_bnd a T from μ ∷ []) Γ, leaf) l n
      unfolding solve pick closes give
      solved_is e = rw (solve_is T h f, m, e)

    pub reach_is : (b : TyVar) → before Γ a b ≡ true
        → rule μ judge (inst s Γ a (etvar b)) l n ≡ done (inst_reach s, int, replace b (setvar_bnd b (etvar a) from μ ∷ []) Γ, leaf) l n
    unfolding rule inst_rule reach pick closes give
    reach_is b e = rw e

    pub arr_is : (A B : Ty) → rule μ judge (inst s Γ a (arrow A B)) l n
        ≡ and_then (judge (inst (other s) (split μ a (fresh_name n) (fresh_name (suc n)) Γ) (fresh_name n) A) l (suc (suc n)))
        (λ r l n'. and_then (apply r.1 B l n')
        (λ B' l n'. and_then (judge (inst s r.1 (fresh_name (suc n)) B') l n')
        (λ u. give (inst_arr s, int, u.1, r.2 & u.2 & leaf))))
    unfolding rule inst_rule inst_arrow ◌>>=◌ and_then fresh
    arr_is A B = refl

  pub all_is : (s : Side) (b : TyVar) (T : Ty) → rule μ judge (inst s Γ a (forall b T)) l n
      ≡ and_then (opened_ty (other s) b T l n)
      (λ T' l n. and_then (judge (inst s (opened_ctx μ (other s) Γ b) a T') l n)
      (λ r. give (inst_all s, int, right_of (binder (other s) b) r.1, r.2 & leaf)))
  unfolding rule inst_rule inst_forall ◌>>=◌ and_then other
  all_is on_l b T = refl
  all_is on_r b T = refl
