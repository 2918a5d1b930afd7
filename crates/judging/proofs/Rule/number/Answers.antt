-- `number` meets its contract.
use Rattle.std.proofs.Common.{rules}
use Rattle.definition.specs.Syntax.{rule_number}
use Rattle.judging.specs.Names.{rule_of}
use Rattle.judging.proofs.Judgements.{rule_small}
use Rattle.judging.proofs.Rule.number.Goals as goal

pub returns : goal.returns
unfolding rule_number
returns c = let small = rule_small (rule_of c.args.self) in search rules
