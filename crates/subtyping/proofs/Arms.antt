-- Which arm of the definition two types fall into.
use mathlib.Core.Path.{◌≡◌, refl, sym, ◌∙◌, ap}
use mathlib.Core.Bool.{Bool, true, false, not}
use mathlib.Core.List.{List}
use mathlib.Core.Logic.{◌⊎◌}
use mathlib.Core.Option.{Option, none, some}
use denote.Enum.Bare.{sameb, same_true, same_false}
use Prim.Native.Nat.{ℕ, ◌≤◌, ◌<◌}
use native.Mathlib.Omega.{arith}
use borrow.Author.Tests.{eq-eqb, ne_eqb}
use lib.Dec.{eqb}
use Rattle.std.specs.Prelude.{Some, None}
use Rattle.definition.specs.Syntax
use Rattle.definition.specs.Syntax.{pick, Ty, int, bool, var, etvar, arrow, forall, Ctx, on_l, on_r, subtyping_error}
use Rattle.definition.specs.Run.{refuse}
use Rattle.definition.specs.Types.{same_name, occurs}
use Rattle.definition.specs.Rules.{Here, Judge, closes, ◌or_else◌, when, on, on_both, ty_code, as_var, as_etvar, as_arrow, as_forall, sub_arr, sub_all_r, sub_all_l, sub_inst, not_in, same_base, same, subtype_rule}
use Rattle.layout.specs.Names.{ty}
use Rattle.layout.specs.Denotes.{Den}
use Rattle.layout.specs.declared.TyVar.{TyVar}
use Rattle.types.specs.Reading.{Named, FormOf, form_number}
use Rattle.types.specs.contracts.Form.{the_type}
use Rattle.types.specs.declared.Form.{Form}
use Rattle.types.proofs.Codes.{base_case, name_case, base_form, parts_form, same_form}
use Rattle.walks.specs.Walks.{Occurs}
use Rattle.walks.proofs.Names.{names}
use Rattle.walks.proofs.Same.{forms_agree, forms_differ}
use Rattle.judging.specs.declared.Rule.{Rule}
use Rattle.judging.specs.declared.Rule.TheVariants as rule
use Rattle.rules.proofs.Choices.{no_arrow, no_forall}
use Rattle.rules.specs.declared.Side.TheVariants as side
use Rattle.rules.proofs.TypeForms.{IsETVar, is_etvar, is_arrow, is_forall}
use Rattle.subtyping.specs.Arms.{Comes, NotAlike, AlikeBy, by_rule, by_none, AlikeTypes, Absent, Formed, both_arrows, right_forall, left_forall, no_form, ByUnknown, left_unknown, right_unknown, no_unknown, ArmFits, fits_refl, fits_arr, fits_all, fits_inst, fits_none, ArmChosen}
use Rattle.subtyping.specs.declared.Arm.{Arm}
use Rattle.subtyping.specs.declared.Arm.TheVariants as arm

-- ## By the form

not_var : (T : Ty) → (ty_code T ≡ 3 → ⊥) → as_var T ≡ none
unfolding ty_code as_var
not_var int h = refl
not_var bool h = refl
not_var (var a) h = absurd (h refl)
not_var (etvar a) h = refl
not_var (arrow A B) h = refl
not_var (forall a A) h = refl

not_etvar : (T : Ty) → (ty_code T ≡ 4 → ⊥) → as_etvar T ≡ none
unfolding ty_code as_etvar
not_etvar int h = refl
not_etvar bool h = refl
not_etvar (var a) h = refl
not_etvar (etvar a) h = absurd (h refl)
not_etvar (arrow A B) h = refl
not_etvar (forall a A) h = refl

same_none : {p : Option Syntax.TyVar} (o : Option Syntax.TyVar) → p ≡ none → same o p ≡ false
unfolding same
same_none none e = refl
same_none (some x) e = rw e

both_none : {X Y R : Type 0} {p : Option Y} (o : Option X) (k : X → Y → R) → p ≡ none → on_both o p k ≡ none
unfolding on_both
both_none none k e = refl
both_none (some x) k e = rw e

-- ## The three arms without premises

-- the codes differ
apart : (A B : Ty) → (ty_code A ≡ ty_code B → ⊥) → NotAlike A B
unfolding ty_code same_base same as_var as_etvar
apart int B h = record { base = ne_eqb 1 (ty_code B) h; vars = refl; etvars = refl }
apart bool B h = record { base = ne_eqb 2 (ty_code B) h; vars = refl; etvars = refl }
apart (var x) B h = record { base = refl; vars = same_none (some x) (not_var B (λ e. h (sym e))); etvars = refl }
apart (etvar x) B h = record { base = refl; vars = refl; etvars = same_none (some x) (not_etvar B (λ e. h (sym e))) }
apart (arrow A A') B h = record { base = refl; vars = refl; etvars = refl }
apart (forall a A) B h = record { base = refl; vars = refl; etvars = refl }

-- types with parts
large : (A B : Ty) → 5 ≤ ty_code A → NotAlike A B
unfolding ty_code same_base same as_var as_etvar
large int B h = absurd (omega arith)
large bool B h = absurd (omega arith)
large (var x) B h = absurd (omega arith)
large (etvar x) B h = absurd (omega arith)
large (arrow A A') B h = record { base = refl; vars = refl; etvars = refl }
large (forall a A) B h = record { base = refl; vars = refl; etvars = refl }

-- Int and Int, Bool and Bool
base_alike : (A B : Ty) → ty_code A < 3 → ty_code A ≡ ty_code B → Comes A B (λ h judge Γ. closes Syntax.SubRefl Γ)
unfolding ty_code subtype_rule same_base when pick ◌or_else◌
base_alike A B h e =
    base_case (λ T. ty_code T ≡ ty_code B → Comes T B (λ h judge Γ. closes Syntax.SubRefl Γ)) A h
    (λ f h judge Γ. rw (eq-eqb 1 (ty_code B) f) refl)
    (λ f h judge Γ. rw (eq-eqb 2 (ty_code B) f) refl)
    e

-- two Vars or two ETVars, whose names are the same or, by r, are not
record Vars (r : Bool) (A B : Ty) : Type 0 where
  u : Syntax.TyVar
  v : Syntax.TyVar
  left : A ≡ var u
  right : B ≡ var v
  same_named : r ≡ same_name u v

record ETVars (r : Bool) (A B : Ty) : Type 0 where
  u : Syntax.TyVar
  v : Syntax.TyVar
  left : A ≡ etvar u
  right : B ≡ etvar v
  same_named : r ≡ same_name u v

module _ {A B : Ty} {r : Bool} where
  vars_alike : Vars r A B → true ≡ r → Comes A B (λ h judge Γ. closes Syntax.SubReflTVar Γ)
  unfolding ty_code subtype_rule same_base same as_var when pick ◌or_else◌
  vars_alike p i h judge Γ = rw (p.left, p.right, ← p.same_named, ← i) refl

  vars_other : Vars r A B → false ≡ r → NotAlike A B
  unfolding ty_code same_base same as_var as_etvar
  vars_other p i = rw (p.left, p.right) (record { base = refl; vars = sym (i ∙ p.same_named); etvars = refl })

  etvars_alike : ETVars r A B → true ≡ r → Comes A B (λ h judge Γ. closes Syntax.SubReflETVar Γ)
  unfolding ty_code subtype_rule same_base same as_var as_etvar when pick ◌or_else◌
  etvars_alike p i h judge Γ = rw (p.left, p.right, ← p.same_named, ← i) refl

  etvars_other : ETVars r A B → false ≡ r → NotAlike A B
  unfolding ty_code same_base same as_var as_etvar
  etvars_other p i = rw (p.left, p.right) (record { base = refl; vars = refl; etvars = sym (i ∙ p.same_named) })

record IsVar (T : Ty) : Type 0 where
  a : Syntax.TyVar
  is : T ≡ var a

is_var : (T : Ty) → ty_code T ≡ 3 → IsVar T
unfolding ty_code
is_var T e = name_case (λ S. ty_code S ≡ 3 → IsVar S) T (omega arith) (omega arith) (λ a f. record { a = a; is = refl }) (λ a f. absurd (omega arith)) e

pub alike_apart : {q w : List ℕ} {t a b : ℕ} (f g : Form) → true ≡ not (sameb the_type f g) → FormOf q w t a f → FormOf q w t b g
    → AlikeTypes q w t a b None
alike_apart f g h ta tb = record { is = λ A B d e. by_none (apart A B (λ x. forms_differ f g h (ta.is A d ∙ x ∙ sym (tb.is B e)))) }

module _ {q w : List ℕ} {t a b : ℕ} (f g : Form) (one_form : false ≡ not (sameb the_type f g)) (ta : FormOf q w t a f) (tb : FormOf q w t b g) where
  eq : f ≡ g
  eq = forms_agree f g one_form

  codes : (A B : Ty) → Den q w t a A → Den q w t b B → ty_code A ≡ ty_code B
  codes A B d e = sym (ta.is A d) ∙ ap form_number eq ∙ tb.is B e

  pub alike_large : (f ≡ Form.Arrow) ⊎ (f ≡ Form.Forall) → AlikeTypes q w t a b None
  alike_large h = record { is = λ A B d e. by_none (large A B (omega (arith, ta.is A d, parts_form h))) }

  pub alike_base : (f ≡ Form.Int) ⊎ (f ≡ Form.Bool) → AlikeTypes q w t a b (Some rule.SubRefl)
  alike_base h = record { is = λ A B d e. by_rule (base_alike A B (omega (arith, ta.is A d, base_form h)) (codes A B d e)) }

  module _ {x y : TyVar} (nx : Named q w t a x) (ny : Named q w t b y) where
    module _ (h : f ≡ Form.Var) where
      both_vars : (A B : Ty) → Den q w t a A → Den q w t b B → Vars (eqb x.0 y.0) A B
      both_vars A B d e =
          let u = is_var A (sym (ta.is A d) ∙ ap form_number h) in
          let v = is_var B (sym (tb.is B e) ∙ ap form_number (sym eq ∙ h)) in
          record {
            u = u.a;
            v = v.a;
            left = u.is;
            right = v.is;
            same_named = names x y u.a v.a (nx.of_var u.a (rw u.is at d)) (ny.of_var v.a (rw v.is at e));
          }

      pub alike_vars : true ≡ eqb x.0 y.0 → AlikeTypes q w t a b (Some rule.SubReflTVar)
      alike_vars i = record { is = λ A B d e. by_rule (vars_alike (both_vars A B d e) i) }

      pub other_vars : false ≡ eqb x.0 y.0 → AlikeTypes q w t a b None
      other_vars i = record { is = λ A B d e. by_none (vars_other (both_vars A B d e) i) }

    module _ (h : f ≡ Form.ETVar) where
      both_etvars : (A B : Ty) → Den q w t a A → Den q w t b B → ETVars (eqb x.0 y.0) A B
      both_etvars A B d e =
          let u = is_etvar A (sym (ta.is A d) ∙ ap form_number h) in
          let v = is_etvar B (sym (tb.is B e) ∙ ap form_number (sym eq ∙ h)) in
          record {
            u = u.a;
            v = v.a;
            left = u.is;
            right = v.is;
            same_named = names x y u.a v.a (nx.of_etvar u.a (rw u.is at d)) (ny.of_etvar v.a (rw v.is at e));
          }

      pub alike_etvars : true ≡ eqb x.0 y.0 → AlikeTypes q w t a b (Some rule.SubReflETVar)
      alike_etvars i = record { is = λ A B d e. by_rule (etvars_alike (both_etvars A B d e) i) }

      pub other_etvars : false ≡ eqb x.0 y.0 → AlikeTypes q w t a b None
      other_etvars i = record { is = λ A B d e. by_none (etvars_other (both_etvars A B d e) i) }

-- ## An unknown that does not occur

pub absent_other : {q w : List ℕ} {t a b : ℕ} {r : Bool} (f : Form) → FormOf q w t a f → r ≡ false → false ≡ sameb the_type f Form.ETVar → Absent q w t a b r
unfolding not_in
absent_other f ta n h = record {
  yes = λ e A B d i. let z : ◌≡◌ {A = ℕ} 0 1 = cc in absurd (omega arith);
  no = λ e A B d i. rw (not_etvar A (λ c. same_false the_type f Form.ETVar (sym h) (same_form f Form.ETVar (ta.is A d ∙ c))));
}

pub etvar_form : (f : Form) → true ≡ sameb the_type f Form.ETVar → f ≡ Form.ETVar
etvar_form f h = same_true the_type tt f Form.ETVar (sym h)

module _ {q w : List ℕ} {t a : ℕ} {x : TyVar} (f : Form) (ta : FormOf q w t a f) (h : true ≡ sameb the_type f Form.ETVar) (nx : Named q w t a x) where
  unknown : (A : Ty) → Den q w t a A → IsETVar A
  unknown A d = is_etvar A (sym (ta.is A d) ∙ ap form_number (etvar_form f h))

  not_in_lem : {b : ℕ} {o : Bool} → Occurs q w t x b o → (A B : Ty) (d : Den q w t a A) → Den q w t b B
      → not_in B (as_etvar A) ≡ pick o none (some (unknown A d).a)
  unfolding not_in as_etvar
  not_in_lem oc A B d e =
      let u = unknown A d in
      let f : ty x ≡ u.a = nx.of_etvar u.a (rw u.is at d) in
      let g : occurs u.a B ≡ _ = sym (rw f at (oc.is B e)) in
      ap (λ (T : Ty). not_in B (as_etvar T)) u.is ∙ ap (λ (z : Bool). pick z none (some u.a)) g

  pub absent_by : {b : ℕ} (o : Bool) → Occurs q w t x b o → Absent q w t a b (not o)
  unfolding pick
  absent_by true oc = record {
    yes = λ e A B d f. let z : ◌≡◌ {A = ℕ} 0 1 = cc in absurd (omega arith);
    no = λ e A B d f. not_in_lem oc A B d f;
  }
  absent_by false oc = record {
    yes = λ e A B d f. record { x = (unknown A d).a; is = (unknown A d).is; not_in_lem = not_in_lem oc A B d f };
    no = λ e A B d f. let z : ◌≡◌ {A = ℕ} 0 1 = cc in absurd (omega arith);
  }

-- the four ways in which two forms tell an arm
pub ruleset formed = (both_arrows, right_forall, left_forall, no_form)

-- ## The first arm that is there

not_both : {R : Type 0} (A B : Ty) (k : Ty × Ty → Ty × Ty → R) → (ty_code A ≡ 5 → ty_code B ≡ 5 → ⊥) → on_both (as_arrow A) (as_arrow B) k ≡ none
unfolding ty_code as_arrow on_both
not_both int B k h = refl
not_both bool B k h = refl
not_both (var a) B k h = refl
not_both (etvar a) B k h = refl
not_both (arrow A A') B k h = both_none (some (A, A')) k (no_arrow B (h refl))
not_both (forall a A) B k h = refl

module _ {A B : Ty} (none_alike : NotAlike A B) where
  rest : (h : Here) (judge : Judge) (Γ : Ctx) → subtype_rule h judge Γ A B
      ≡ (on_both (as_arrow A) (as_arrow B) (sub_arr h judge Γ)
      or_else on (as_forall B) (sub_all_r h judge Γ A)
      or_else on (as_forall A) (sub_all_l h judge Γ B)
      or_else on (not_in B (as_etvar A)) (sub_inst h judge Syntax.SubInstL on_l Γ B)
      or_else on (not_in A (as_etvar B)) (sub_inst h judge Syntax.SubInstR on_r Γ A)
      or_else refuse (subtyping_error A B))
  unfolding subtype_rule when pick ◌or_else◌
  rest h judge Γ = rw (none_alike.base, none_alike.vars, none_alike.etvars)

  arrows : (A₁ A₂ B₁ B₂ : Ty) → A ≡ arrow A₁ A₂ → B ≡ arrow B₁ B₂ → Comes A B (λ h judge Γ. sub_arr h judge Γ (A₁, A₂) (B₁, B₂))
  unfolding as_arrow on_both ◌or_else◌
  arrows A₁ A₂ B₁ B₂ e f h judge Γ = rest h judge Γ ∙ rw (e, f) refl

  right_all : (b : Syntax.TyVar) (T : Ty) → B ≡ forall b T → Comes A B (λ h judge Γ. sub_all_r h judge Γ A (b, T))
  unfolding as_arrow as_forall on ◌or_else◌
  right_all b T e h judge Γ = rest h judge Γ ∙ rw e (rw (both_none (as_arrow A) (sub_arr h judge Γ) refl) refl)

  module _ (not-r : ty_code B ≡ 6 → ⊥) where
    left_all : (a : Syntax.TyVar) (T : Ty) → A ≡ forall a T → Comes A B (λ h judge Γ. sub_all_l h judge Γ B (a, T))
    unfolding as_arrow on_both as_forall on ◌or_else◌
    left_all a T e h judge Γ = rest h judge Γ ∙ rw (no_forall B not-r, e) refl

    left_inst : (x : Syntax.TyVar) → A ≡ etvar x → not_in B (as_etvar A) ≡ some x → Comes A B (λ h judge Γ. sub_inst h judge Syntax.SubInstL on_l Γ B x)
    unfolding as_arrow on_both as_forall on ◌or_else◌
    left_inst x e f h judge Γ = rest h judge Γ ∙ rw (no_forall B not-r, f, e) refl

    module _ (not-l : ty_code A ≡ 6 → ⊥) (in-l : not_in B (as_etvar A) ≡ none) where
      right_inst : (y : Syntax.TyVar) → B ≡ etvar y → not_in A (as_etvar B) ≡ some y → Comes A B (λ h judge Γ. sub_inst h judge Syntax.SubInstR on_r Γ A y)
      unfolding as_arrow on ◌or_else◌
      right_inst y e f h judge Γ =
          rest h judge Γ
          ∙ rw (no_forall B not-r, no_forall A not-l, in-l, f, both_none (as_arrow A) (sub_arr h judge Γ) (ap (λ (T : Ty). as_arrow T) e)) refl

      neither : (ty_code A ≡ 5 → ty_code B ≡ 5 → ⊥) → not_in A (as_etvar B) ≡ none → Comes A B (λ h judge Γ. refuse (subtyping_error A B))
      unfolding on ◌or_else◌
      neither n f h judge Γ = rest h judge Γ ∙ rw (not_both A B (sub_arr h judge Γ) n, no_forall B not-r, no_forall A not-l, in-l, f) refl

module _ {q w : List ℕ} {t a b : ℕ} {r : Bool} (ab : Absent q w t a b r) where
  pub unknown_left : r ≡ true → ByUnknown q w t a b (arm.Inst side.L)
  unknown_left e = left_unknown (rw e at ab)

  module _ (no : r ≡ false) {r' : Bool} (ab' : Absent q w t b a r') where
    pub unknown_right : r' ≡ true → ByUnknown q w t a b (arm.Inst side.R)
    unknown_right e = right_unknown (rw no at ab) (rw e at ab')

    pub unknown_neither : r' ≡ false → ByUnknown q w t a b arm.Neither
    unknown_neither e = no_unknown (rw no at ab) (rw e at ab')

-- an arm that is another: what the code's `_` knows
abbrev pub NotNeither : Arm → Type 0
NotNeither z = z ≡ arm.Neither → ⊥

is_neither : NotNeither arm.Neither → ⊥
is_neither h = h refl

pub chosen_refl : {q w : List ℕ} {t a b : ℕ} {n : Rule} → AlikeTypes q w t a b (Some n) → ArmChosen q w t a b (arm.Refl n)
chosen_refl {n = n} al = record { is = λ A B d e. go (al.is A B d e) }
  where
    go : {A B : Ty} → AlikeBy A B (Some n) → ArmFits A B (arm.Refl n)
    go (by_rule f) = fits_refl f

module _ {q w : List ℕ} {t a b : ℕ} (f g : Form) (al : AlikeTypes q w t a b None) (ta : FormOf q w t a f) (tb : FormOf q w t b g) where
  unlike : (A B : Ty) → Den q w t a A → Den q w t b B → NotAlike A B
  unlike A B d e = go (al.is A B d e)
    where
      go : AlikeBy A B None → NotAlike A B
      go (by_none x) = x

  -- a type of another form has another code
  not_left : (h : Form) → (f ≡ h → ⊥) → (A : Ty) → Den q w t a A → ty_code A ≡ form_number h → ⊥
  not_left h n A d c = n (same_form f h (ta.is A d ∙ c))

  not_right : (h : Form) → (g ≡ h → ⊥) → (B : Ty) → Den q w t b B → ty_code B ≡ form_number h → ⊥
  not_right h n B e c = n (same_form g h (tb.is B e ∙ c))

  -- by the forms
  pub chosen_form : {z : Arm} → NotNeither z → Formed f g z → ArmChosen q w t a b z
  chosen_form h (both_arrows x y) = record {
    is = λ A B d e.
        let u = is_arrow A (sym (ta.is A d) ∙ ap form_number x) in
        let v = is_arrow B (sym (tb.is B e) ∙ ap form_number y) in
        fits_arr u.is v.is (arrows (unlike A B d e) u.A u.B v.A v.B u.is v.is);
  }
  chosen_form h (right_forall y) = record {
    is = λ A B d e. let v = is_forall B (sym (tb.is B e) ∙ ap form_number y) in fits_all v.is (right_all (unlike A B d e) v.a v.A v.is);
  }
  chosen_form h (left_forall n x) = record {
    is = λ A B d e.
        let u = is_forall A (sym (ta.is A d) ∙ ap form_number x) in
        fits_all u.is (left_all (unlike A B d e) (not_right Form.Forall n B e) u.a u.A u.is);
  }
  chosen_form h (no_form x y z) = absurd (is_neither h)

  -- by an unknown
  module _ (no_arrows : f ≡ Form.Arrow → g ≡ Form.Arrow → ⊥) (no_r : g ≡ Form.Forall → ⊥) (no_l : f ≡ Form.Forall → ⊥) where
    chosen_by : {y : Arm} → ByUnknown q w t a b y → ArmChosen q w t a b y
    chosen_by (left_unknown ab) = record {
      is = λ A B d e.
          let u = ab.yes refl A B d e in
          fits_inst u.is (left_inst (unlike A B d e) (not_right Form.Forall no_r B e) u.x u.is u.not_in_lem);
    }
    chosen_by (right_unknown ab ab') = record {
      is = λ A B d e.
          let v = ab'.yes refl B A e d in
          fits_inst v.is
          (right_inst (unlike A B d e) (not_right Form.Forall no_r B e) (not_left Form.Forall no_l A d) (ab.no refl A B d e) v.x v.is v.not_in_lem);
    }
    chosen_by (no_unknown ab ab') = record {
      is = λ A B d e.
          fits_none
          (neither (unlike A B d e) (not_right Form.Forall no_r B e) (not_left Form.Forall no_l A d) (ab.no refl A B d e)
          (λ x y. no_arrows (same_form f Form.Arrow (ta.is A d ∙ x)) (same_form g Form.Arrow (tb.is B e ∙ y))) (ab'.no refl B A e d));
    }

  pub chosen_unknown : {y : Arm} → Formed f g arm.Neither → ByUnknown q w t a b y → ArmChosen q w t a b y
  chosen_unknown (no_form x y z) u = chosen_by x y z u
