-- `reach` meets its contract.
use Rattle.rules.specs.Sides.{side}
use Rattle.instantiation.proofs.Sides.{reach_rule}
use Rattle.instantiation.proofs.Solving.{etvar_named, reach_done}
use Rattle.instantiation.proofs.reach.Goals as goal

pub name_of-y-requires : goal.name_of-y-requires
name_of-y-requires c = search etvar_named

pub returns : goal.returns
returns c = reach_done c.requires c.name_of-y.ensures (reach_rule (side c.args.s) c.one-rule.ensures) c.solved.ensures
