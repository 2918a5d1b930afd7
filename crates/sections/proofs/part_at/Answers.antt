-- `part_at` meets its contract.
use borrow.Author.Rules.{rules}
use Rattle.sections.proofs.Sections.{none_at, runs_past, found_at}
use Rattle.sections.proofs.part_at.Goals as goal

pub returns-then-n-at : goal.returns-then-n-at
returns-then-n-at c = search (none_at, rules)

pub returns-then-count-n : goal.returns-then-count-n
returns-then-count-n c = search (found_at, rules)

pub returns : goal.returns
returns c = search (runs_past, rules)
