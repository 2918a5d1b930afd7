-- Which rule the definition chooses, by the codes of the expression and of the type.
use mathlib.Core.Path.{◌≡◌, refl, ◌∙◌}
use mathlib.Core.Option.{none}
use Prim.Native.Nat.{ℕ}
use native.Mathlib.Omega.{arith}
use Rattle.definition.specs.Syntax
use Rattle.definition.specs.Syntax.{pick, TmVar, TyVar, Ty, int, bool, var, etvar, arrow, forall, Expr, evar, app, abs, tapp, tabs, ann, lit_int, lit_bool, let_in, if_then_else, bin_op, Ctx, Judgement, infer, check, infer_app, application_type_error}
use Rattle.definition.specs.Run.{Out, refuse}
use Rattle.definition.specs.Rules.{Fired, Judge, Here, closes, ◌or_else◌, when, on, on_both, ty_code, as_arrow, as_etvar, as_forall, expr_code, as_abs, chk_lam, chk_all, chk_sub, check_rule, infer_app_rule, infer_rule, rule, judge}
use Rattle.contexts.proofs.Search.{not_both}

-- ## What is asked, taken apart further

module _ (μ : Here) (l n : ℕ) {j : Judgement} {Γ : Ctx} {e : Expr} {X : Out Fired} where
  pub infers : {e' : Expr} → j ≡ infer Γ e → e ≡ e' → infer_rule μ (judge μ) Γ e' l n ≡ X → rule μ (judge μ) j l n ≡ X
  unfolding rule
  infers p f x = rw (p, f) x

  pub checks : {e' : Expr} {B B' : Ty} → j ≡ check Γ e B → e ≡ e' → B ≡ B' → check_rule μ (judge μ) Γ e' B' l n ≡ X → rule μ (judge μ) j l n ≡ X
  unfolding rule
  checks p f h x = rw (p, f, h) x

  pub applies : {A A' : Ty} → j ≡ infer_app Γ e A → A ≡ A' → infer_app_rule μ (judge μ) Γ e A' l n ≡ X → rule μ (judge μ) j l n ≡ X
  unfolding rule
  applies p h x = rw (p, h) x

-- ## check: the arms in order

pub no_arrow : (B : Ty) → (ty_code B ≡ 5 → ⊥) → as_arrow B ≡ none
unfolding ty_code as_arrow
no_arrow int h = refl
no_arrow bool h = refl
no_arrow (var a) h = refl
no_arrow (etvar a) h = refl
no_arrow (arrow A B) h = absurd (h refl)
no_arrow (forall a A) h = refl

pub no_forall : (B : Ty) → (ty_code B ≡ 6 → ⊥) → as_forall B ≡ none
unfolding ty_code as_forall
no_forall int h = refl
no_forall bool h = refl
no_forall (var a) h = refl
no_forall (etvar a) h = refl
no_forall (arrow A B) h = refl
no_forall (forall a A) h = absurd (h refl)

no_lam : {R : Type 0} (k : TmVar × Ty × Expr → Ty × Ty → R) (e : Expr) (B : Ty) → (expr_code e ≡ 18 → ty_code B ≡ 5 → ⊥) → on_both (as_abs e) (as_arrow B) k ≡ none
unfolding expr_code as_abs on_both
no_lam k (evar p x) B h = refl
no_lam k (app p e e') B h = refl
no_lam k (abs p x A e) B h = rw (no_arrow B (h refl)) refl
no_lam k (tapp p e A) B h = refl
no_lam k (tabs p a e) B h = refl
no_lam k (ann p e A) B h = refl
no_lam k (lit_int p l g) B h = refl
no_lam k (lit_bool p b) B h = refl
no_lam k (let_in p x e e') B h = refl
no_lam k (if_then_else p e e' e'') B h = refl
no_lam k (bin_op p o e e') B h = refl

module _ (h : Here) (judge : Judge) (Γ : Ctx) where
  pub chk_int : (p low high : ℕ) → check_rule h judge Γ (lit_int p low high) int ≡ closes Syntax.ChkLitInt Γ
  unfolding check_rule expr_code ty_code when pick ◌or_else◌
  chk_int p low high = refl

  pub chk_bool : (p b : ℕ) → check_rule h judge Γ (lit_bool p b) bool ≡ closes Syntax.ChkLitBool Γ
  unfolding check_rule expr_code ty_code when pick ◌or_else◌
  chk_bool p b = refl

  pub chk_lam_lem : (p : ℕ) (x : TmVar) (A P C : Ty) (e : Expr) → check_rule h judge Γ (abs p x A e) (arrow P C) ≡ chk_lam h judge Γ (x, A, e) (P, C)
  unfolding check_rule expr_code ty_code when pick ◌or_else◌ on_both as_abs as_arrow
  chk_lam_lem p x A P C e = refl

  module _ (e : Expr) (B : Ty) (no-int : expr_code e ≡ 22 → ty_code B ≡ 1 → ⊥) (no_bool : expr_code e ≡ 23 → ty_code B ≡ 2 → ⊥)
      (no-abs : expr_code e ≡ 18 → ty_code B ≡ 5 → ⊥) where
    late : check_rule h judge Γ e B ≡ (on (as_forall B) (chk_all h judge Γ e) or_else chk_sub h judge Γ e B)
    unfolding check_rule when pick ◌or_else◌
    late = rw (not_both _ _ _ _ no-int, not_both _ _ _ _ no_bool, no_lam (chk_lam h judge Γ) e B no-abs) refl

    pub chk_sub_lem : (ty_code B ≡ 6 → ⊥) → check_rule h judge Γ e B ≡ chk_sub h judge Γ e B
    unfolding on ◌or_else◌
    chk_sub_lem f = late ∙ rw (no_forall B f) refl

  pub chk_all_lem : (e : Expr) (a : TyVar) (A : Ty) → check_rule h judge Γ e (forall a A) ≡ chk_all h judge Γ e (a, A)
  unfolding ty_code on as_forall ◌or_else◌
  chk_all_lem e a A = late e (forall a A) (λ f g. omega arith) (λ f g. omega arith) (λ f g. omega arith)

-- ## infer_app

pub no_app : (h : Here) (judge : Judge) (Γ : Ctx) (e : Expr) (A : Ty) → (ty_code A ≡ 5 → ⊥) → (ty_code A ≡ 4 → ⊥)
    → infer_app_rule h judge Γ e A ≡ refuse (application_type_error A)
unfolding infer_app_rule ty_code on as_arrow as_etvar ◌or_else◌
no_app h judge Γ e int f g = refl
no_app h judge Γ e bool f g = refl
no_app h judge Γ e (var a) f g = refl
no_app h judge Γ e (etvar a) f g = absurd (g refl)
no_app h judge Γ e (arrow A B) f g = absurd (f refl)
no_app h judge Γ e (forall a A) f g = refl
