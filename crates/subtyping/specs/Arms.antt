-- The arm of the definition that two types fall into, and what the rule in it requires.
use Rattle.std.specs.Prelude.{◌≡◌, Bool, true, false, List, ℕ, Option, Some, None}
use Rattle.std.proofs.Math.Option.{none, some}
use Rattle.definition.specs.Syntax
use Rattle.definition.specs.Syntax.{TyVar, Ty, etvar, arrow, forall, Ctx, Side, on_l, on_r, Rule, subtyping_error}
use Rattle.definition.specs.Run.{M, refuse}
use Rattle.definition.specs.Rules.{Fired, Here, Judge, closes, as_var, as_etvar, not_in, same_base, same, sub_arr, sub_all_r, sub_all_l, sub_inst, subtype_rule}
use Rattle.layout.specs.Denotes.{Den}
use Rattle.layout.specs.declared.Span.{Span}
use Rattle.layout.specs.declared.State.{State}
use Rattle.types.specs.Reading.{Held}
use Rattle.types.specs.declared.Form.{Form}
use Rattle.judging.specs.Names.{rule_of}
use Rattle.judging.specs.declared.Rule as declared
use Rattle.judging.specs.Asking.{sub_ask, RulePre}
use Rattle.rules.specs.Sides.{side}
use Rattle.instantiation.specs.Sides.{on_side}
use Rattle.rules.specs.declared.Side as program
use Rattle.rules.specs.declared.Side.TheVariants.{L, R}
use Rattle.subtyping.specs.declared.Arm.{Arm}
use Rattle.subtyping.specs.declared.Arm.TheVariants as arm

-- ## By the side

-- SubAllL or SubAllR, SubInstL or SubInstR
abbrev pub sub_all : Side → Here → Judge → Ctx → Ty → TyVar × Ty → M Fired
sub_all on_l = sub_all_l
sub_all on_r = sub_all_r

abbrev pub rule_inst : Side → Rule
rule_inst on_l = Syntax.SubInstL
rule_inst on_r = Syntax.SubInstR

-- ## The arms

-- both denote a type
pub record BothHeld (q w : List ℕ) (t a b : ℕ) : Type 0 where
  pub left : Held q w t a
  pub right : Held q w t b

-- what the rule for two types comes to, wherever it runs, whatever is asked and in every context
abbrev pub Comes : Ty → Ty → (Here → Judge → Ctx → M Fired) → Type 0
Comes A B k = (h : Here) (judge : Judge) (Γ : Ctx) → subtype_rule h judge Γ A B ≡ k h judge Γ

-- none of the three arms without premises is there
pub record NotAlike (A B : Ty) : Type 0 where
  pub base : same_base A B ≡ false
  pub vars : same (as_var A) (as_var B) ≡ false
  pub etvars : same (as_etvar A) (as_etvar B) ≡ false

-- the first of them that is there
pub data AlikeBy (A B : Ty) : Option declared.Rule → Type 0 where
  by_rule : {n : declared.Rule} → Comes A B (λ h judge Γ. closes (rule_of n) Γ) → AlikeBy A B (Some n)
  by_none : NotAlike A B → AlikeBy A B None

pub record AlikeTypes (q w : List ℕ) (t a b : ℕ) (n : Option declared.Rule) : Type 0 where
  pub is : (A B : Ty) → Den q w t a A → Den q w t b B → AlikeBy A B n

-- A is an unknown that does not occur in B
pub record AbsentFrom (A B : Ty) : Type 0 where
  pub x : TyVar
  pub is : A ≡ etvar x
  pub not_in_lem : not_in B (as_etvar A) ≡ some x

pub record Absent (q w : List ℕ) (t a b : ℕ) (r : Bool) : Type 0 where
  pub yes : r ≡ true → (A B : Ty) → Den q w t a A → Den q w t b B → AbsentFrom A B
  pub no : r ≡ false → (A B : Ty) → Den q w t a A → Den q w t b B → not_in B (as_etvar A) ≡ none

-- the arm that two forms tell
pub data Formed (k m : Form) : Arm → Type 0 where
  both_arrows : k ≡ Form.Arrow → m ≡ Form.Arrow → Formed k m arm.Arr
  right_forall : m ≡ Form.Forall → Formed k m (arm.All R)
  left_forall : (m ≡ Form.Forall → ⊥) → k ≡ Form.Forall → Formed k m (arm.All L)
  no_form : (k ≡ Form.Arrow → m ≡ Form.Arrow → ⊥) → (m ≡ Form.Forall → ⊥) → (k ≡ Form.Forall → ⊥) → Formed k m arm.Neither

-- the arm that an unknown on a side tells
pub data ByUnknown (q w : List ℕ) (t a b : ℕ) : Arm → Type 0 where
  left_unknown : Absent q w t a b true → ByUnknown q w t a b (arm.Inst L)
  right_unknown : Absent q w t a b false → Absent q w t b a true → ByUnknown q w t a b (arm.Inst R)
  no_unknown : Absent q w t a b false → Absent q w t b a false → ByUnknown q w t a b arm.Neither

-- the first arm that is there, with the types' parts that it asks for
pub data ArmFits (A B : Ty) : Arm → Type 0 where
  fits_refl : {n : declared.Rule} → Comes A B (λ h judge Γ. closes (rule_of n) Γ) → ArmFits A B (arm.Refl n)
  fits_arr : {A₁ A₂ B₁ B₂ : Ty} → A ≡ arrow A₁ A₂ → B ≡ arrow B₁ B₂ → Comes A B (λ h judge Γ. sub_arr h judge Γ (A₁, A₂) (B₁, B₂)) → ArmFits A B arm.Arr
  fits_all : {s : program.Side} {x : TyVar} {T : Ty} → on_side (side s) A B ≡ forall x T
      → Comes A B (λ h judge Γ. sub_all (side s) h judge Γ (on_side (side s) B A) (x, T)) → ArmFits A B (arm.All s)
  fits_inst : {s : program.Side} {x : TyVar} → on_side (side s) A B ≡ etvar x
      → Comes A B (λ h judge Γ. sub_inst h judge (rule_inst (side s)) (side s) Γ (on_side (side s) B A) x) → ArmFits A B (arm.Inst s)
  fits_none : Comes A B (λ h judge Γ. refuse (subtyping_error A B)) → ArmFits A B arm.Neither

pub record ArmChosen (q w : List ℕ) (t a b : ℕ) (z : Arm) : Type 0 where
  pub is : (A B : Ty) → Den q w t a A → Den q w t b B → ArmFits A B z

-- what the rule in an arm requires
pub record ArmPre (q w : List ℕ) (s : State) (g : Span) (a b : ℕ) (z : Arm) : Type 0 where
  pub pre : RulePre q w s g (sub_ask a b)
  pub chosen : ArmChosen q w s.top a b z
