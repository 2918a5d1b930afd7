-- `write_after` meets its contract.
use Rattle.writing.proofs.After.{same_span, after_copied, after_written}
use Rattle.writing.proofs.write_after.Goals as goal

pub returns-then-eq : goal.returns-then-eq
returns-then-eq c = search (after_copied, same_span)

pub returns-else-eq : goal.returns-else-eq
returns-else-eq c = search after_written
