-- Going by the code that was read: where P holds of each form of type that has the code, it holds of every type that r denotes.
use mathlib.Core.Path.{◌≡◌, sym, ◌∙◌}
use mathlib.Core.List.{List}
use Prim.Native.Nat.{ℕ, ◌≤◌, ◌<◌}
use native.Mathlib.Omega.{arith}
use Rattle.definition.specs.Syntax.{TyVar, Ty, int, bool, var, etvar, arrow, forall}
use Rattle.layout.specs.Denotes.{Den}
use Rattle.types.specs.Reading.{Tagged}
use Rattle.types.proofs.Codes.{base_case, name_case, arrow_case, forall_case}

module _ {q w : List ℕ} {t r k : ℕ} (P : Ty → Type 0) (c : Tagged q w t r k) where
  pub by_base : k < 3 → (Den q w t r int → P int) → (Den q w t r bool → P bool) → (T : Ty) → Den q w t r T → P T
  by_base l f g T d = base_case (λ T. Den q w t r T → P T) T (omega (arith, c.is T d)) f g d

  pub by_name : 3 ≤ k → k < 5 → ((a : TyVar) → Den q w t r (var a) → P (var a)) → ((a : TyVar) → Den q w t r (etvar a) → P (etvar a))
      → (T : Ty) → Den q w t r T → P T
  by_name l m f g T d = name_case (λ T. Den q w t r T → P T) T (omega (arith, c.is T d)) (omega (arith, c.is T d)) f g d

  pub by_arrow : k ≡ 5 → ((A B : Ty) → Den q w t r (arrow A B) → P (arrow A B)) → (T : Ty) → Den q w t r T → P T
  by_arrow e f T d = arrow_case (λ T. Den q w t r T → P T) T (sym (c.is T d) ∙ e) f d

  pub by_forall : k ≡ 6 → ((a : TyVar) (A : Ty) → Den q w t r (forall a A) → P (forall a A)) → (T : Ty) → Den q w t r T → P T
  by_forall e f T d = forall_case (λ T. Den q w t r T → P T) T (sym (c.is T d) ∙ e) f d
