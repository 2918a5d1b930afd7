-- `name_of` meets its contract.
use Rattle.types.proofs.Reading.{name_in_question, name_in_work, named_written, named_made}
use Rattle.types.proofs.Store.name_of.Goals as goal

pub bounds-self-r : goal.bounds-self-r
bounds-self-r c = name_in_question c.requires.held c.if-r-lt-BASE.true c.requires.low

pub bounds-self-r-else-r-lt-BASE : goal.bounds-self-r-else-r-lt-BASE
bounds-self-r-else-r-lt-BASE c = name_in_work c.requires.held c.if-r-lt-BASE.false c.requires.low

pub returns-then-r-lt-BASE : goal.returns-then-r-lt-BASE
returns-then-r-lt-BASE c = search named_written

pub returns-else-r-lt-BASE : goal.returns-else-r-lt-BASE
returns-else-r-lt-BASE c = search named_made
