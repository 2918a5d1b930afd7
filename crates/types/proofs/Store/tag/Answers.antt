-- `tag` meets its contract.
use Rattle.types.proofs.Reading.{tagged_written, tagged_made}
use Rattle.types.proofs.Store.tag.Goals as goal

pub returns-then-r-lt-BASE : goal.returns-then-r-lt-BASE
returns-then-r-lt-BASE c = search tagged_written

pub returns-else-r-lt-BASE : goal.returns-else-r-lt-BASE
returns-else-r-lt-BASE c = search tagged_made
