-- `open_left` meets its contract.
use Rattle.std.proofs.lemmas.Result.{err_from_is_err_and}
use native.Mathlib.Omega.{arith}
use Rattle.rules.proofs.Opening.{forall_named, subst_pre, left_spent, left_space, opens_left}
use Rattle.rules.proofs.open_left.Goals as goal

pub name_of-b-requires : goal.name_of-b-requires
name_of-b-requires c = search forall_named

pub subst_type-requires : goal.subst_type-requires
subst_type-requires c = search subst_pre

pub returns-in_err-made : goal.returns-in_err-made
returns-in_err-made c =
    let p = err_from_is_err_and c.from_residual.result c.from_residual.ensures.1 in
    rw p.1 (left_spent c.requires c.name_of-b.ensures c.body_of-body.ensures c.put_etvar-unknown.ensures c.raise.ensures c.subst_type.ensures
    c.in_err-made.was)

pub push-o-requires : goal.push-o-requires
push-o-requires c = (
  omega arith,
  left_space c.requires c.name_of-b.ensures c.body_of-body.ensures c.put_etvar-unknown.ensures c.raise.ensures c.subst_type.ensures
      c.in_ok-made.was c.entry-e.ensures c.entry-e2.ensures,
)

pub returns : goal.returns
returns c =
    opens_left c.requires c.name_of-b.ensures c.body_of-body.ensures c.put_etvar-unknown.ensures c.raise.ensures c.subst_type.ensures
    c.in_ok-made.was c.entry-e.ensures c.entry-e2.ensures c.push-o.ensures
