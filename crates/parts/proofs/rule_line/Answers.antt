-- `rule_line` meets its contract.
use Rattle.parts.proofs.Showing.{words_short}
use Rattle.parts.proofs.rule_line.Goals as goal

pub rules_of-n-requires : goal.rules_of-n-requires
rules_of-n-requires c = words_short c.args.r _ c.args.report.now c.section_of.ensures c.told-report
