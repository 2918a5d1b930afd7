-- `open_right` meets its contract.
use native.Mathlib.Omega.{arith}
use Rattle.rules.proofs.Opening.{forall_named, right_space, opens_right}
use Rattle.rules.proofs.open_right.Goals as goal

pub name_of-b-requires : goal.name_of-b-requires
name_of-b-requires c = search forall_named

pub push-o-requires : goal.push-o-requires
push-o-requires c = (omega arith, right_space c.requires c.name_of-b.ensures c.body_of-ty.ensures c.entry.ensures)

pub returns : goal.returns
returns c = opens_right c.requires c.name_of-b.ensures c.body_of-ty.ensures c.entry.ensures c.push-o.ensures
