-- `part` meets its contract.
use native.Mathlib.Omega.{arith}
use Rattle.parts.proofs.Showing.{words_short, part_line}
use Rattle.parts.proofs.part.Goals as goal

pub line-requires : goal.line-requires
line-requires c = omega (arith, words_short c.args.r c.args.s c.args.report.now c.section_of.ensures c.told-report)

pub returns : goal.returns
returns c = search part_line
