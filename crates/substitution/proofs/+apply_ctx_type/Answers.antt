-- `apply_ctx_type` meets its contract: each answer is a law of its arm.
use native.Mathlib.Omega.{arith}
use mathlib.Core.Path.{refl, ap}
use Prim.Native.Nat.{ℕ}
use Rattle.definition.specs.Syntax.{Ctx}
use Rattle.types.specs.Reading.{form_number}
use Rattle.substitution.proofs.Equations.{apply_forall}
use Rattle.substitution.proofs.Arms.{PaidCall, Led, Arrow, Forall, spent_at_once, exits, fewer, as_arrow, as_forall, named, given_at_once, follows, followed, left_asks, left_spent, left_fewer, right_asks, right_spent, arrow_asks, arrow_does, body_asks, body_spent, forall_asks, forall_does, arrow_read, forall_read, left_made, both_made, body_made}
use Rattle.substitution.proofs.Ways.{apply_pre, apply_does, applied, apply_way, apply_call, plain_applied, unsolved_applied, solved_applied}
use Rattle.substitution.proofs.+apply_ctx_type.Goals.{After-form, In-Some, After-right_of-right, After-body_of-body}
use Rattle.substitution.proofs.+apply_ctx_type.Goals as goal

-- the call, once its type's form is read
abbrev call : (t : ℕ) → After-form t → PaidCall Ctx t
call t c = apply_call c.args.g c.form.result c.requires c.decreases c.in_ok-paid.ensures c.form.ensures

-- on an ETVar that is solved, on an Arrow whose halves are read, and on a Forall whose name and body are
abbrev led : (t : ℕ) → In-Some t → Led Ctx t
led t c = record {
  on = apply_call c.args.g c.form.result c.requires c.decreases c.in_ok-paid.ensures c.form.ensures;
  u = c.in-Some.solution;
  leads = λ Γ run. solved_applied c.form.ensures c.in-ETVar.is c.name_of.ensures Γ run c.in-Some.ensures;
}

abbrev arrow : (t : ℕ) → After-right_of-right t → Arrow Ctx t
arrow t c =
    arrow_read (apply_call c.args.g c.form.result c.requires c.decreases c.in_ok-paid.ensures c.form.ensures) c.in-Arrow.is
    c.left_of-left.ensures c.right_of-right.ensures

abbrev opened : (t : ℕ) → After-body_of-body t → Forall Ctx t
opened t c =
    forall_read (apply_call c.args.g c.form.result c.requires c.decreases c.in_ok-paid.ensures c.form.ensures) c.in-Forall.is
    c.name_of-a.ensures c.body_of-body.ensures (λ Γ. apply_forall Γ _)

-- ## The budget is spent at once

pub returns-in_err-paid : goal.returns-in_err-paid
returns-in_err-paid t c = applied (exits _ _ c.from_residual.ensures.1 (spent_at_once (apply_way _ c.args.g) c.in_err-paid.ensures))

-- ## Int, Bool and Var

pub returns-in-Int : goal.returns-in-Int
returns-in-Int t c =
    let i = call t (goal.at.returns-in-Int t c).After-form in
    applied (given_at_once i (λ Γ run. plain_applied i.began.form c.in-Int.is Γ))

-- ## An ETVar

pub name_of-requires : goal.name_of-requires
name_of-requires t c =
    let e = ap form_number c.in-ETVar.is in
    named (call t (goal.at.name_of-requires t c).After-form) (omega arith) (λ f. omega arith)

pub returns-in-None : goal.returns-in-None
returns-in-None t c =
    let i = call t (goal.at.returns-in-None t c).After-form in
    applied (given_at_once i (λ Γ run. unsolved_applied i.began.form c.in-ETVar.is c.name_of.ensures Γ run c.in-None.ensures))

pub apply_ctx_type-requires : goal.apply_ctx_type-requires
apply_ctx_type-requires t c =
    let g = goal.at.apply_ctx_type-requires t c in
    (fewer (call t g.After-form), apply_pre (follows (led t g.In-Some)))

pub returns-in-Some : goal.returns-in-Some
returns-in-Some t c = applied (followed (led t (goal.at.returns-in-Some t c).In-Some) (apply_does c.apply_ctx_type.ensures))

-- ## An Arrow

pub left_of-left-requires : goal.left_of-left-requires
left_of-left-requires t c = as_arrow (call t (goal.at.left_of-left-requires t c).After-form) c.in-Arrow.is

pub right_of-right-requires : goal.right_of-right-requires
right_of-right-requires t c = as_arrow (call t (goal.at.right_of-right-requires t c).After-form) c.in-Arrow.is

pub apply_ctx_type-requires-in-Arrow : goal.apply_ctx_type-requires-in-Arrow
apply_ctx_type-requires-in-Arrow t c =
    let g = goal.at.apply_ctx_type-requires-in-Arrow t c in
    (fewer (call t g.After-form), apply_pre (left_asks (arrow t g.After-right_of-right)))

pub returns-in_err-left-in-Arrow : goal.returns-in_err-left-in-Arrow
returns-in_err-left-in-Arrow t c =
    let h = arrow t (goal.at.returns-in_err-left-in-Arrow t c).After-right_of-right in
    applied (exits _ _ c.from_residual-in_err-left-in-Arrow.ensures.1 (left_spent h (apply_does c.in_err-left-in-Arrow.ensures)))

pub apply_ctx_type-requires-in-Arrow-2 : goal.apply_ctx_type-requires-in-Arrow-2
apply_ctx_type-requires-in-Arrow-2 t c =
    let h = left_made (arrow t (goal.at.apply_ctx_type-requires-in-Arrow-2 t c).After-right_of-right) (apply_does c.in_ok-left-in-Arrow.ensures) in
    (left_fewer h, apply_pre (right_asks h))

pub returns-in_err-right-in-Arrow : goal.returns-in_err-right-in-Arrow
returns-in_err-right-in-Arrow t c =
    let h = left_made (arrow t (goal.at.returns-in_err-right-in-Arrow t c).After-right_of-right) (apply_does c.in_ok-left-in-Arrow.ensures) in
    applied (exits _ _ c.from_residual-in_err-right-in-Arrow.ensures.1 (right_spent h (apply_does c.in_err-right-in-Arrow.ensures) refl))

pub arrow_made-requires : goal.arrow_made-requires
arrow_made-requires t c =
    let h = left_made (arrow t (goal.at.arrow_made-requires t c).After-right_of-right) (apply_does c.in_ok-left-in-Arrow.ensures) in
    arrow_asks (both_made h (apply_does c.in_ok-right-in-Arrow.ensures))

pub returns-in_ok-right-in-Arrow : goal.returns-in_ok-right-in-Arrow
returns-in_ok-right-in-Arrow t c =
    let h = left_made (arrow t (goal.at.returns-in_ok-right-in-Arrow t c).After-right_of-right) (apply_does c.in_ok-left-in-Arrow.ensures) in
    applied (arrow_does (both_made h (apply_does c.in_ok-right-in-Arrow.ensures)) c.arrow_made.ensures)

-- ## A Forall

pub name_of-a-requires : goal.name_of-a-requires
name_of-a-requires t c =
    let e = ap form_number c.in-Forall.is in
    named (call t (goal.at.name_of-a-requires t c).After-form) (omega arith) (λ f. omega arith)

pub body_of-body-requires : goal.body_of-body-requires
body_of-body-requires t c = as_forall (call t (goal.at.body_of-body-requires t c).After-form) c.in-Forall.is

pub apply_ctx_type-requires-in-Forall : goal.apply_ctx_type-requires-in-Forall
apply_ctx_type-requires-in-Forall t c =
    let g = goal.at.apply_ctx_type-requires-in-Forall t c in
    (fewer (call t g.After-form), apply_pre (body_asks (opened t g.After-body_of-body)))

pub returns-in_err-body-in-Forall : goal.returns-in_err-body-in-Forall
returns-in_err-body-in-Forall t c =
    let h = opened t (goal.at.returns-in_err-body-in-Forall t c).After-body_of-body in
    applied (exits _ _ c.from_residual-in_err-body-in-Forall.ensures.1 (body_spent h (apply_does c.in_err-body-in-Forall.ensures)))

pub forall_made-requires : goal.forall_made-requires
forall_made-requires t c =
    forall_asks (body_made (opened t (goal.at.forall_made-requires t c).After-body_of-body) (apply_does c.in_ok-body-in-Forall.ensures))

pub returns-in_ok-body-in-Forall : goal.returns-in_ok-body-in-Forall
returns-in_ok-body-in-Forall t c =
    let h = opened t (goal.at.returns-in_ok-body-in-Forall t c).After-body_of-body in
    applied (forall_does (body_made h (apply_does c.in_ok-body-in-Forall.ensures)) c.forall_made.ensures)
