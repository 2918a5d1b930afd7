-- `occurs_check` meets its contract.
use mathlib.Core.Path.{refl}
use Rattle.types.proofs.Codes.{base_form, name_form}
use Rattle.types.proofs.Held.{held_arrow, held_forall, named_var, named_forall, left_below, right_below, body_below}
use Rattle.walks.proofs.Occurs.{occurs_base, occurs_name, occurs_left, occurs_right, occurs_bound, occurs_body}
use Rattle.walks.proofs.+occurs_check.Goals as goal

pub name_of-requires : goal.name_of-requires
name_of-requires t c = search named_var

pub left_of-requires : goal.left_of-requires
left_of-requires t c = search held_arrow

pub occurs_check-requires : goal.occurs_check-requires
occurs_check-requires t c = left_below c.decreases (search held_arrow) c.left_of.ensures

pub right_of-requires : goal.right_of-requires
right_of-requires t c = search held_arrow

pub occurs_check-requires-else-occurs_check : goal.occurs_check-requires-else-occurs_check
occurs_check-requires-else-occurs_check t c = right_below c.decreases (search held_arrow) c.right_of.ensures

pub name_of-requires-in-Forall : goal.name_of-requires-in-Forall
name_of-requires-in-Forall t c = search named_forall

pub body_of-requires : goal.body_of-requires
body_of-requires t c = search held_forall

pub occurs_check-requires-then-ne : goal.occurs_check-requires-then-ne
occurs_check-requires-then-ne t c = body_below c.decreases (search held_forall) c.body_of.ensures

pub returns-in-Int : goal.returns-in-Int
returns-in-Int t c = occurs_base c.form.ensures (base_form c.in-Int.is)

pub returns-in-Var : goal.returns-in-Var
returns-in-Var t c =
    let n = name_form c.in-Var.is in
    occurs_name c.form.ensures n.0 n.1 c.name_of.ensures c.eq.ensures

pub returns-then-occurs_check : goal.returns-then-occurs_check
returns-then-occurs_check t c = occurs_left c.in-Arrow.ensures refl c.left_of.ensures c.occurs_check.ensures c.if-occurs_check.true

pub returns-else-occurs_check : goal.returns-else-occurs_check
returns-else-occurs_check t c =
    occurs_right c.in-Arrow.ensures refl c.left_of.ensures c.occurs_check.ensures c.if-occurs_check.false c.right_of.ensures
    c.occurs_check-else-occurs_check.ensures

pub returns-then-ne : goal.returns-then-ne
returns-then-ne t c =
    occurs_body c.in-Forall.ensures refl c.name_of-in-Forall.ensures c.ne.ensures c.if-ne.true c.body_of.ensures c.occurs_check-then-ne.ensures

pub returns-else-ne : goal.returns-else-ne
returns-else-ne t c = occurs_bound c.in-Forall.ensures refl c.name_of-in-Forall.ensures c.ne.ensures c.if-ne.false
