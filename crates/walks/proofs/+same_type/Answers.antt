-- `same_type` meets its contract.
use mathlib.Core.Path.{◌≡◌, ap}
use mathlib.Core.Bool.{Bool, false, not}
use mathlib.Core.List.{List}
use Prim.Native.Nat.{ℕ, ◌+◌, ◌*◌}
use borrow.Author.Rules.{rules}
use Rattle.layout.specs.Words.{Put2}
use denote.Enum.Bare.{sameb}
use Rattle.types.specs.Reading.{rank, form_number, FormOf, LeftOf, RightOf, BodyOf}
use Rattle.types.specs.declared.Form.{Form}
use Rattle.types.specs.contracts.Form.{the_type}
use Rattle.types.proofs.Codes.{base_form}
use Rattle.walks.specs.Letters.{BothNames, Comparing, Same}
use Rattle.walks.specs.declared.NamePair.{NamePair}
use Rattle.walks.proofs.Same.{forms_agree, forms_differ, OneCode, Arrows, LeftsCompared, Foralls, PairLaid, vars_named, etvars_named, foralls_named, one_as, two_as, lefts_below, rights_below, bodies_below, pair_room, same_apart, same_base, same_vars, same_etvars, same_no, same_both, same_under}
use Rattle.walks.proofs.+same_type.Goals as goal

-- both forms were read and are the same; the parts of two Arrows were read; their left parts were compared; the letters and bodies of two
-- Foralls were read; their letters were laid
abbrev one_code : {v t n r s : ℕ} {q w : List ℕ} (f g : Form) → rank r ≡ v → Comparing q w t n r s → FormOf q w t r f → FormOf q w t s g
    → false ≡ not (sameb the_type f g) → OneCode v
one_code f g e x one two h =
    record { q = _; w = _; t = _; n = _; r = _; s = _; k = _; measure = e; comparing = x; one = one; two = rw (ap form_number (forms_agree f g h)) two }

abbrev arrows : {v a b a' b' : ℕ} (i : OneCode v) → i.k ≡ 5 → LeftOf i.q i.w i.t i.r a → LeftOf i.q i.w i.t i.s a' → RightOf i.q i.w i.t i.r b
    → RightOf i.q i.w i.t i.s b' → Arrows v
arrows i e l l' r r' = record { on = i; five = e; from = _; to = _; from' = _; to' = _; left = l; right = r; left' = l'; right' = r' }

abbrev lefts : {v : ℕ} {w₁ : List ℕ} {z : Bool} (i : Arrows v) → Same i.on.q i.on.w w₁ i.on.t i.on.n i.from i.from' z → LeftsCompared v
lefts i h = record { both = i; w₁ = _; same = _; told = h }

abbrev foralls : {v a a' : ℕ} {p : NamePair} (i : OneCode v) → i.k ≡ 6 → BothNames i.q i.w i.t i.r i.s p → BodyOf i.q i.w i.t i.r a
    → BodyOf i.q i.w i.t i.s a' → Foralls v
foralls i e n b b' = record { on = i; six = e; p = _; letters = n; under = _; under' = _; body = b; body' = b' }

abbrev laid : {v : ℕ} {w₁ : List ℕ} (i : Foralls v) → Put2 i.on.w w₁ (i.on.t + 2 * i.on.n) i.p.a.0 i.p.b.0 → PairLaid v
laid i h = record { both = i; w₁ = _; put = h }

pub returns-then-ne : goal.returns-then-ne
returns-then-ne t c = same_apart c.form-form.ensures c.form.ensures (forms_differ _ _ c.if-ne.ensures)

pub names_of-requires : goal.names_of-requires
names_of-requires t c =
    vars_named (one_code _ _ c.decreases c.requires c.form-form.ensures c.form.ensures c.if-ne.ensures) (ap form_number c.in-Var.is)

pub names_of-requires-in-ETVar : goal.names_of-requires-in-ETVar
names_of-requires-in-ETVar t c =
    etvars_named (one_code _ _ c.decreases c.requires c.form-form.ensures c.form.ensures c.if-ne.ensures) (ap form_number c.in-ETVar.is)

pub left_of-left-requires : goal.left_of-left-requires
left_of-left-requires t c =
    one_as (one_code _ _ c.decreases c.requires c.form-form.ensures c.form.ensures c.if-ne.ensures) 5 (ap form_number c.in-Arrow.is)

pub right_of-right-requires : goal.right_of-right-requires
right_of-right-requires t c =
    one_as (one_code _ _ c.decreases c.requires c.form-form.ensures c.form.ensures c.if-ne.ensures) 5 (ap form_number c.in-Arrow.is)

pub left_of-other_left-requires : goal.left_of-other_left-requires
left_of-other_left-requires t c =
    two_as (one_code _ _ c.decreases c.requires c.form-form.ensures c.form.ensures c.if-ne.ensures) 5 (ap form_number c.in-Arrow.is)

pub right_of-other_right-requires : goal.right_of-other_right-requires
right_of-other_right-requires t c =
    two_as (one_code _ _ c.decreases c.requires c.form-form.ensures c.form.ensures c.if-ne.ensures) 5 (ap form_number c.in-Arrow.is)

pub same_type-requires : goal.same_type-requires
same_type-requires t c =
    lefts_below (arrows (one_code _ _ c.decreases c.requires c.form-form.ensures c.form.ensures c.if-ne.ensures) (ap form_number
    c.in-Arrow.is) c.left_of-left.ensures c.left_of-other_left.ensures c.right_of-right.ensures c.right_of-other_right.ensures)

pub same_type-requires-then-same_type : goal.same_type-requires-then-same_type
same_type-requires-then-same_type t c =
    rights_below (lefts (arrows (one_code _ _ c.decreases c.requires c.form-form.ensures c.form.ensures c.if-ne.ensures) (ap form_number
    c.in-Arrow.is) c.left_of-left.ensures c.left_of-other_left.ensures c.right_of-right.ensures c.right_of-other_right.ensures)
    c.same_type.ensures)

pub names_of-p-requires : goal.names_of-p-requires
names_of-p-requires t c =
    foralls_named (one_code _ _ c.decreases c.requires c.form-form.ensures c.form.ensures c.if-ne.ensures) (ap form_number c.in-Forall.is)

pub body_of-body-requires : goal.body_of-body-requires
body_of-body-requires t c =
    one_as (one_code _ _ c.decreases c.requires c.form-form.ensures c.form.ensures c.if-ne.ensures) 6 (ap form_number c.in-Forall.is)

pub body_of-other_body-requires : goal.body_of-other_body-requires
body_of-other_body-requires t c =
    two_as (one_code _ _ c.decreases c.requires c.form-form.ensures c.form.ensures c.if-ne.ensures) 6 (ap form_number c.in-Forall.is)

pub put2-requires : goal.put2-requires
put2-requires t c = (
  pair_room (foralls (one_code _ _ c.decreases c.requires c.form-form.ensures c.form.ensures c.if-ne.ensures) (ap form_number c.in-Forall.is)
      c.names_of-p.ensures c.body_of-body.ensures c.body_of-other_body.ensures),
  search rules,
  search rules,
)

pub same_type-requires-in-Forall : goal.same_type-requires-in-Forall
same_type-requires-in-Forall t c =
    bodies_below (laid (foralls (one_code _ _ c.decreases c.requires c.form-form.ensures c.form.ensures c.if-ne.ensures) (ap form_number
    c.in-Forall.is) c.names_of-p.ensures c.body_of-body.ensures c.body_of-other_body.ensures) c.put2.ensures)

pub returns-in-Int : goal.returns-in-Int
returns-in-Int t c =
    same_base (one_code _ _ c.decreases c.requires c.form-form.ensures c.form.ensures c.if-ne.ensures) (base_form c.in-Int.is)

pub returns-in-Var : goal.returns-in-Var
returns-in-Var t c =
    same_vars (one_code _ _ c.decreases c.requires c.form-form.ensures c.form.ensures c.if-ne.ensures) c.names_of.ensures (ap form_number
    c.in-Var.is) c.same_var.ensures

pub returns-in-ETVar : goal.returns-in-ETVar
returns-in-ETVar t c =
    same_etvars (one_code _ _ c.decreases c.requires c.form-form.ensures c.form.ensures c.if-ne.ensures) c.names_of-in-ETVar.ensures (ap
    form_number c.in-ETVar.is) c.same_var-in-ETVar.ensures

pub returns-then-same_type : goal.returns-then-same_type
returns-then-same_type t c =
    same_both (lefts (arrows (one_code _ _ c.decreases c.requires c.form-form.ensures c.form.ensures c.if-ne.ensures) (ap form_number
    c.in-Arrow.is) c.left_of-left.ensures c.left_of-other_left.ensures c.right_of-right.ensures c.right_of-other_right.ensures)
    c.same_type.ensures) c.if-same_type.true c.same_type-then-same_type.ensures

pub returns-else-same_type : goal.returns-else-same_type
returns-else-same_type t c =
    same_no (lefts (arrows (one_code _ _ c.decreases c.requires c.form-form.ensures c.form.ensures c.if-ne.ensures) (ap form_number
    c.in-Arrow.is) c.left_of-left.ensures c.left_of-other_left.ensures c.right_of-right.ensures c.right_of-other_right.ensures)
    c.same_type.ensures) c.if-same_type.false

pub returns-in-Forall : goal.returns-in-Forall
returns-in-Forall t c =
    same_under (laid (foralls (one_code _ _ c.decreases c.requires c.form-form.ensures c.form.ensures c.if-ne.ensures) (ap form_number
    c.in-Forall.is) c.names_of-p.ensures c.body_of-body.ensures c.body_of-other_body.ensures) c.put2.ensures) c.same_type-in-Forall.ensures
