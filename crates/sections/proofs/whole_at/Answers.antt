-- `whole_at` meets its contract.
use mathlib.Core.Path.{◌∙◌}
use borrow.Author.Tests.{le-ltb}
use Rattle.sections.proofs.Nodes.{not_whole, is_whole}
use Rattle.sections.proofs.whole_at.Goals as goal

pub returns-then-at-n : goal.returns-then-at-n
returns-then-at-n c = is_whole _ _ c.if-at-n.true

pub returns-else-at-n : goal.returns-else-at-n
returns-else-at-n c = le-ltb _ _ c.if-at-n.false ∙ not_whole _ _ c.if-at-n.false
