-- `with_mono` meets its contract.
use borrow.Author.Rules.{rules}
use Rattle.layout.proofs.Monotypes.{with_yes, with_no}
use Rattle.layout.proofs.with_mono.Goals as goal

pub returns-then-yes : goal.returns-then-yes
returns-then-yes c = search (with_yes, rules)

pub returns : goal.returns
returns c = search (with_no, rules)
