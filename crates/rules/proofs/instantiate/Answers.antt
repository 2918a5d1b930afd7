-- `instantiate` meets its contract.
use Rattle.judging.proofs.Steps.{stop_is}
use Rattle.rules.proofs.TypeForms.{forall_form, other_form}
use Rattle.rules.proofs.Between.{not_instantiated, forall_as, forall_named, subst_pre, instance_spent, instance_done}
use Rattle.rules.proofs.instantiate.Goals as goal

pub returns-then-ne : goal.returns-then-ne
returns-then-ne c = rw c.fail.ensures (not_instantiated c.requires c.form.ensures (other_form _ c.if-ne.ensures))

pub name_of-a-requires : goal.name_of-a-requires
name_of-a-requires c = forall_named c.requires c.form.ensures (forall_form _ c.if-ne.ensures)

pub body_of-body-requires : goal.body_of-body-requires
body_of-body-requires c = forall_as c.requires c.form.ensures (forall_form _ c.if-ne.ensures)

pub subst_type-requires : goal.subst_type-requires
subst_type-requires c = subst_pre c.requires c.form.ensures (forall_form _ c.if-ne.ensures) c.name_of-a.ensures c.body_of-body.ensures

pub returns-in_err-subst_type : goal.returns-in_err-subst_type
returns-in_err-subst_type c =
    rw (stop_is _ c.from_residual.ensures.1) (instance_spent c.requires c.form.ensures (forall_form _ c.if-ne.ensures) c.name_of-a.ensures c.body_of-body.ensures
    c.subst_type.ensures c.in_err-subst_type.was)

pub returns : goal.returns
returns c =
    instance_done c.requires c.form.ensures (forall_form _ c.if-ne.ensures) c.name_of-a.ensures c.body_of-body.ensures c.subst_type.ensures
    c.in_ok-subst_type.was
