-- The program's sides as the definition's: the other one, and the rules that are for a side.
use mathlib.Core.Path.{◌≡◌, ap}
use Rattle.definition.specs.Syntax as syntax
use Rattle.definition.specs.Syntax.{on_l, on_r}
use Rattle.definition.specs.Rules.{other, inst_solve, inst_reach, inst_arr}
use Rattle.judging.specs.Names.{rule_of}
use Rattle.judging.specs.declared.Rule.{Rule}
use Rattle.judging.specs.declared.Rule.TheVariants as rule
use Rattle.rules.specs.declared.Side.{Side}
use Rattle.rules.specs.declared.Side.TheVariants.{L, R}
use Rattle.rules.specs.Sides.{side}
use Rattle.instantiation.specs.Sides.{on_side, other_of}

pub other_is : {z : Side} (s : Side) → z ≡ other_of s → side z ≡ other (side s)
unfolding other
other_is L e = rw e
other_is R e = rw e

abbrev pub inst_all : syntax.Side → syntax.Rule
inst_all on_l = syntax.InstLAllR
inst_all on_r = syntax.InstRAllL

-- of two rules the program picks the one that the definition does
module _ {n : Rule} where
  pub solve_rule : (s : syntax.Side) → n ≡ on_side s rule.InstLSolve rule.InstRSolve → rule_of n ≡ inst_solve s
  unfolding inst_solve
  solve_rule on_l e = ap rule_of e
  solve_rule on_r e = ap rule_of e

  pub reach_rule : (s : syntax.Side) → n ≡ on_side s rule.InstLReach rule.InstRReach → rule_of n ≡ inst_reach s
  unfolding inst_reach
  reach_rule on_l e = ap rule_of e
  reach_rule on_r e = ap rule_of e

  pub arr_rule : (s : syntax.Side) → n ≡ on_side s rule.InstLArr rule.InstRArr → rule_of n ≡ inst_arr s
  unfolding inst_arr
  arr_rule on_l e = ap rule_of e
  arr_rule on_r e = ap rule_of e

  pub all_rule : (s : syntax.Side) → n ≡ on_side s rule.InstLAllR rule.InstRAllL → rule_of n ≡ inst_all s
  all_rule on_l e = ap rule_of e
  all_rule on_r e = ap rule_of e
