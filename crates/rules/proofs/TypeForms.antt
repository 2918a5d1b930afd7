-- The parts of a type by its code, and its code by its form.
use mathlib.Core.Path.{◌≡◌, refl, sym, ap}
use mathlib.Core.Bool.{true, false, not}
use borrow.Author.Rules.{rules}
use native.Mathlib.Omega.{arith}
use Rattle.definition.specs.Syntax.{TyVar, Ty, etvar, arrow, forall}
use Rattle.definition.specs.Rules.{ty_code}
use denote.Enum.Bare.{sameb, differs_true, differs_false}
use Rattle.types.specs.Reading.{form_number}
use Rattle.types.specs.contracts.Form.{the_type}
use Rattle.types.specs.declared.Form.{Form}
use Rattle.types.proofs.Codes.{same_form, name_case, arrow_case, forall_case}

pub record IsETVar (T : Ty) : Type 0 where
  pub a : TyVar
  pub is : T ≡ etvar a

pub is_etvar : (T : Ty) → ty_code T ≡ 4 → IsETVar T
unfolding ty_code
is_etvar T e = name_case (λ S. ty_code S ≡ 4 → IsETVar S) T (omega arith) (omega arith) (λ a f. absurd (omega arith)) (λ a f. record { a = a; is = refl }) e

pub record IsArrow (T : Ty) : Type 0 where
  pub A : Ty
  pub B : Ty
  pub is : T ≡ arrow A B

pub is_arrow : (T : Ty) → ty_code T ≡ 5 → IsArrow T
is_arrow T e = arrow_case IsArrow T e (λ A B. record { A = A; B = B; is = refl })

pub record IsForall (T : Ty) : Type 0 where
  pub a : TyVar
  pub A : Ty
  pub is : T ≡ forall a A

pub is_forall : (T : Ty) → ty_code T ≡ 6 → IsForall T
is_forall T e = forall_case IsForall T e (λ a A. record { a = a; A = A; is = refl })

-- ## What a test for a Forall tells of the code

pub forall_form : (f : Form) → false ≡ not (sameb the_type f Form.Forall) → form_number f ≡ 6
forall_form f e = ap form_number (differs_false the_type (search rules) f Form.Forall (sym e))

pub other_form : (f : Form) → true ≡ not (sameb the_type f Form.Forall) → form_number f ≡ 6 → ⊥
other_form f e n = differs_true the_type f Form.Forall (sym e) (same_form f Form.Forall n)
