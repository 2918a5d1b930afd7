-- What a type's code tells of the type, and a form of its number.
use mathlib.Core.Path.{◌≡◌, refl, sym, ◌∙◌, ap}
use mathlib.Core.Logic.{◌⊎◌, ⊎_elim}
use Prim.Native.Nat.{ℕ, ◌≤◌, ◌<◌}
use native.Mathlib.Omega.{arith}
use Rattle.std.specs.Prelude.{if◌then◌else◌, eqb}
use Rattle.definition.specs.Syntax.{TyVar, Ty, int, bool, var, etvar, arrow, forall}
use Rattle.definition.specs.Rules.{ty_code}
use Rattle.layout.specs.Places.{size}
use Rattle.layout.specs.Denotes.{capped}
use Rattle.layout.proofs.Places.{size_some}
use Rattle.types.specs.Reading.{form_number, record_size}
use Rattle.types.specs.declared.Form.{Form}

-- ## What holds of each form of type that has the code holds of the type

module _ (P : Ty → Type 0) where
  pub base_case : (T : Ty) → ty_code T < 3 → P int → P bool → P T
  unfolding ty_code
  base_case int l f g = f
  base_case bool l f g = g
  base_case (var a) l f g = absurd (omega arith)
  base_case (etvar a) l f g = absurd (omega arith)
  base_case (arrow A B) l f g = absurd (omega arith)
  base_case (forall a A) l f g = absurd (omega arith)

  pub name_case : (T : Ty) → 3 ≤ ty_code T → ty_code T < 5 → ((a : TyVar) → P (var a)) → ((a : TyVar) → P (etvar a)) → P T
  unfolding ty_code
  name_case int l m f g = absurd (omega arith)
  name_case bool l m f g = absurd (omega arith)
  name_case (var a) l m f g = f a
  name_case (etvar a) l m f g = g a
  name_case (arrow A B) l m f g = absurd (omega arith)
  name_case (forall a A) l m f g = absurd (omega arith)

  pub arrow_case : (T : Ty) → ty_code T ≡ 5 → ((A B : Ty) → P (arrow A B)) → P T
  unfolding ty_code
  arrow_case int e f = absurd (omega arith)
  arrow_case bool e f = absurd (omega arith)
  arrow_case (var a) e f = absurd (omega arith)
  arrow_case (etvar a) e f = absurd (omega arith)
  arrow_case (arrow A B) e f = f A B
  arrow_case (forall a A) e f = absurd (omega arith)

  pub forall_case : (T : Ty) → ty_code T ≡ 6 → ((a : TyVar) (A : Ty) → P (forall a A)) → P T
  unfolding ty_code
  forall_case int e f = absurd (omega arith)
  forall_case bool e f = absurd (omega arith)
  forall_case (var a) e f = absurd (omega arith)
  forall_case (etvar a) e f = absurd (omega arith)
  forall_case (arrow A B) e f = absurd (omega arith)
  forall_case (forall a A) e f = f a A

-- ## What the arms of a match on a form tell of its number

module _ {f : Form} where
  pub base_form : (f ≡ Form.Int) ⊎ (f ≡ Form.Bool) → form_number f < 3
  base_form = ⊎_elim (λ e. omega (arith, ap form_number e)) (λ e. omega (arith, ap form_number e))

  pub name_form : (f ≡ Form.Var) ⊎ (f ≡ Form.ETVar) → (3 ≤ form_number f) × (form_number f < 5)
  name_form = ⊎_elim (λ e. (omega (arith, ap form_number e), omega (arith, ap form_number e)))
      (λ e. (omega (arith, ap form_number e), omega (arith, ap form_number e)))

  pub parts_form : (f ≡ Form.Arrow) ⊎ (f ≡ Form.Forall) → 5 ≤ form_number f
  parts_form = ⊎_elim (λ e. omega (arith, ap form_number e)) (λ e. omega (arith, ap form_number e))

-- two forms of one number are one
form_at : ℕ → Form
form_at n =
    if eqb n 1 then Form.Int else if eqb n 2 then Form.Bool else if eqb n 3 then Form.Var else if eqb n 4 then Form.ETVar
    else if eqb n 5 then Form.Arrow else Form.Forall

form_back : (f : Form) → form_at (form_number f) ≡ f
unfolding form_at
form_back Form.Int = refl
form_back Form.Bool = refl
form_back Form.Var = refl
form_back Form.ETVar = refl
form_back Form.Arrow = refl
form_back Form.Forall = refl

pub same_form : (f g : Form) → form_number f ≡ form_number g → f ≡ g
same_form f g e = sym (form_back f) ∙ ap form_at e ∙ form_back g

-- T begins with the name b
pub data Naming : Ty → TyVar → Type 0 where
  var_names : {b : TyVar} → Naming (var b) b
  etvar_names : {b : TyVar} → Naming (etvar b) b
  forall_names : {b : TyVar} {A : Ty} → Naming (forall b A) b

-- ## Sizes by code

-- how long the record of a type of code k is
pub record Sizes (k n : ℕ) : Type 0 where
  pub low : 1 ≤ k
  pub high : k ≤ 6
  pub some : 1 ≤ n
  pub one : k < 3 → n ≡ 1
  pub two : 3 ≤ k → k < 5 → n ≡ 2
  pub four : 5 ≤ k → n ≡ 4

pub sizes : (T : Ty) → Sizes (ty_code T) (record_size T)
unfolding ty_code record_size
sizes int = record { low = omega arith; high = omega arith; some = omega arith; one = λ l. refl; two = λ l m. absurd (omega arith); four = λ l. absurd (omega arith) }
sizes bool = record { low = omega arith; high = omega arith; some = omega arith; one = λ l. refl; two = λ l m. absurd (omega arith); four = λ l. absurd (omega arith) }
sizes (var a) = record { low = omega arith; high = omega arith; some = omega arith; one = λ l. absurd (omega arith); two = λ l m. refl; four = λ l. absurd (omega arith) }
sizes (etvar a) = record { low = omega arith; high = omega arith; some = omega arith; one = λ l. absurd (omega arith); two = λ l m. refl; four = λ l. absurd (omega arith) }
sizes (arrow A B) = record { low = omega arith; high = omega arith; some = omega arith; one = λ l. absurd (omega arith); two = λ l m. absurd (omega arith); four = λ l. refl }
sizes (forall a A) = record { low = omega arith; high = omega arith; some = omega arith; one = λ l. absurd (omega arith); two = λ l m. absurd (omega arith); four = λ l. refl }

-- a type with a name or parts has a second word
pub two_words : (T : Ty) → 3 ≤ ty_code T → (2 ≤ size T) × (2 ≤ record_size T)
unfolding ty_code record_size
two_words int h = absurd (omega arith)
two_words bool h = absurd (omega arith)
two_words (var a) h = (omega arith, omega arith)
two_words (etvar a) h = (omega arith, omega arith)
two_words (arrow A B) h = (omega (arith, size_some A), omega arith)
two_words (forall a A) h = (omega arith, omega arith)

-- a type without parts is as long as its record
pub leaf_size : (T : Ty) → ty_code T < 5 → record_size T ≡ capped (size T)
unfolding ty_code record_size
leaf_size int h = refl
leaf_size bool h = refl
leaf_size (var a) h = refl
leaf_size (etvar a) h = refl
leaf_size (arrow A B) h = absurd (omega arith)
leaf_size (forall a A) h = absurd (omega arith)
