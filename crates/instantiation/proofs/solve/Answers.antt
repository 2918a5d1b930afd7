-- `solve` meets its contract.
use Rattle.rules.specs.Sides.{side}
use Rattle.instantiation.proofs.Sides.{solve_rule}
use Rattle.instantiation.proofs.Solving.{side_unknown, solve_occurs, solve_done, never_poly}
use Rattle.instantiation.proofs.solve.Goals as goal

pub name_of-x-requires : goal.name_of-x-requires
name_of-x-requires c = search side_unknown

pub returns-then-not-is_mono : goal.returns-then-not-is_mono
returns-then-not-is_mono c = search never_poly

pub returns-then-occurs_check : goal.returns-then-occurs_check
returns-then-occurs_check c = search solve_occurs

pub returns : goal.returns
returns c =
    solve_done c.requires c.name_of-x.ensures c.is_mono.ensures c.if-not-is_mono.false c.occurs_check.ensures c.if-occurs_check.false
    (solve_rule (side c.args.s) c.one-rule.ensures) c.solved.ensures
