-- `subst_type` meets its contract: each answer is a law of its arm.
use native.Mathlib.Omega.{arith}
use mathlib.Core.Path.{refl, ap}
use Prim.Native.Nat.{ℕ}
use Rattle.definition.specs.Syntax.{Ty}
use Rattle.types.specs.Reading.{form_number}
use Rattle.types.proofs.Codes.{name_form}
use Rattle.substitution.proofs.Arms.{PaidCall, Arrow, Forall, spent_at_once, exits, fewer, as_arrow, as_forall, named, given_at_once, left_asks, left_spent, left_fewer, right_asks, right_spent, arrow_asks, arrow_does, body_asks, body_spent, forall_asks, forall_does, arrow_read, forall_read, left_made, both_made, body_made}
use Rattle.substitution.proofs.Ways.{subst_pre, subst_does, substed, subst_way, subst_call, plain_substed, name_substed, shadowed_substed, forall_substed}
use Rattle.substitution.proofs.+subst_type.Goals.{After-form, After-right_of-right, After-body_of-body}
use Rattle.substitution.proofs.+subst_type.Goals as goal

-- the call, once its type's form is read
abbrev call : (t : ℕ) → After-form t → PaidCall Ty t
call t c = subst_call c.args.a c.form.result c.requires c.decreases c.in_ok-paid.ensures c.form.ensures

-- on an Arrow whose halves are read, and on a Forall whose name and body are
abbrev arrow : (t : ℕ) → After-right_of-right t → Arrow Ty t
arrow t c =
    arrow_read (subst_call c.args.a c.form.result c.requires c.decreases c.in_ok-paid.ensures c.form.ensures) c.in-Arrow.is
    c.left_of-left.ensures c.right_of-right.ensures

abbrev opened : (t : ℕ) → After-body_of-body t → Forall Ty t
opened t c =
    forall_read (subst_call c.args.a c.form.result c.requires c.decreases c.in_ok-paid.ensures c.form.ensures) c.in-Forall.is
    c.name_of-b.ensures c.body_of-body.ensures (forall_substed _ _ c.if-eq.ensures)

-- ## The budget is spent at once

pub returns-in_err-paid : goal.returns-in_err-paid
returns-in_err-paid t c = substed (exits _ _ c.from_residual.ensures.1 (spent_at_once (subst_way _ c.args.a _) c.in_err-paid.ensures))

-- ## Int, Bool, Var and ETVar

pub returns-in-Int : goal.returns-in-Int
returns-in-Int t c =
    let i = call t (goal.at.returns-in-Int t c).After-form in
    substed (given_at_once i (λ B g. plain_substed c.args.a i.began.form c.in-Int.is B))

pub chosen-requires : goal.chosen-requires
chosen-requires t c =
    let n = name_form c.in-Var.is in
    named (call t (goal.at.chosen-requires t c).After-form) n.0 (λ e. omega (arith, n.1))

pub returns-in-Var : goal.returns-in-Var
returns-in-Var t c =
    let i = call t (goal.at.returns-in-Var t c).After-form in
    substed (given_at_once i (name_substed c.args.a i.began.form c.in-Var.is c.chosen.ensures))

-- ## An Arrow

pub left_of-left-requires : goal.left_of-left-requires
left_of-left-requires t c = as_arrow (call t (goal.at.left_of-left-requires t c).After-form) c.in-Arrow.is

pub right_of-right-requires : goal.right_of-right-requires
right_of-right-requires t c = as_arrow (call t (goal.at.right_of-right-requires t c).After-form) c.in-Arrow.is

pub subst_type-requires : goal.subst_type-requires
subst_type-requires t c =
    let g = goal.at.subst_type-requires t c in
    (fewer (call t g.After-form), subst_pre (left_asks (arrow t g.After-right_of-right)))

pub returns-in_err-left-in-Arrow : goal.returns-in_err-left-in-Arrow
returns-in_err-left-in-Arrow t c =
    let h = arrow t (goal.at.returns-in_err-left-in-Arrow t c).After-right_of-right in
    substed (exits _ _ c.from_residual-in_err-left-in-Arrow.ensures.1 (left_spent h (subst_does c.in_err-left-in-Arrow.ensures)))

pub subst_type-requires-in-Arrow : goal.subst_type-requires-in-Arrow
subst_type-requires-in-Arrow t c =
    let h = left_made (arrow t (goal.at.subst_type-requires-in-Arrow t c).After-right_of-right) (subst_does c.in_ok-left-in-Arrow.ensures) in
    (left_fewer h, subst_pre (right_asks h))

pub returns-in_err-right-in-Arrow : goal.returns-in_err-right-in-Arrow
returns-in_err-right-in-Arrow t c =
    let h = left_made (arrow t (goal.at.returns-in_err-right-in-Arrow t c).After-right_of-right) (subst_does c.in_ok-left-in-Arrow.ensures) in
    substed (exits _ _ c.from_residual-in_err-right-in-Arrow.ensures.1 (right_spent h (subst_does c.in_err-right-in-Arrow.ensures) refl))

pub arrow_made-requires : goal.arrow_made-requires
arrow_made-requires t c =
    let h = left_made (arrow t (goal.at.arrow_made-requires t c).After-right_of-right) (subst_does c.in_ok-left-in-Arrow.ensures) in
    arrow_asks (both_made h (subst_does c.in_ok-right-in-Arrow.ensures))

pub returns-in_ok-right-in-Arrow : goal.returns-in_ok-right-in-Arrow
returns-in_ok-right-in-Arrow t c =
    let h = left_made (arrow t (goal.at.returns-in_ok-right-in-Arrow t c).After-right_of-right) (subst_does c.in_ok-left-in-Arrow.ensures) in
    substed (arrow_does (both_made h (subst_does c.in_ok-right-in-Arrow.ensures)) c.arrow_made.ensures)

-- ## A Forall

pub name_of-b-requires : goal.name_of-b-requires
name_of-b-requires t c =
    let e = ap form_number c.in-Forall.is in
    named (call t (goal.at.name_of-b-requires t c).After-form) (omega arith) (λ f. omega arith)

pub returns-then-eq : goal.returns-then-eq
returns-then-eq t c =
    let i = call t (goal.at.returns-then-eq t c).After-form in
    substed (given_at_once i (λ B g. shadowed_substed c.args.a i.began.form c.in-Forall.is c.name_of-b.ensures c.if-eq.ensures B))

pub body_of-body-requires : goal.body_of-body-requires
body_of-body-requires t c = as_forall (call t (goal.at.body_of-body-requires t c).After-form) c.in-Forall.is

pub subst_type-requires-in-Forall : goal.subst_type-requires-in-Forall
subst_type-requires-in-Forall t c =
    let g = goal.at.subst_type-requires-in-Forall t c in
    (fewer (call t g.After-form), subst_pre (body_asks (opened t g.After-body_of-body)))

pub returns-in_err-body-in-Forall : goal.returns-in_err-body-in-Forall
returns-in_err-body-in-Forall t c =
    let h = opened t (goal.at.returns-in_err-body-in-Forall t c).After-body_of-body in
    substed (exits _ _ c.from_residual-in_err-body-in-Forall.ensures.1 (body_spent h (subst_does c.in_err-body-in-Forall.ensures)))

pub forall_made-requires : goal.forall_made-requires
forall_made-requires t c =
    forall_asks (body_made (opened t (goal.at.forall_made-requires t c).After-body_of-body) (subst_does c.in_ok-body-in-Forall.ensures))

pub returns-in_ok-body-in-Forall : goal.returns-in_ok-body-in-Forall
returns-in_ok-body-in-Forall t c =
    let h = opened t (goal.at.returns-in_ok-body-in-Forall t c).After-body_of-body in
    substed (forall_does (body_made h (subst_does c.in_ok-body-in-Forall.ensures)) c.forall_made.ensures)
