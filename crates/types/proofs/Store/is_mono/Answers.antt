-- `is_mono` meets its contract.
use Rattle.types.proofs.Reading.{mono_written, mono_made}
use Rattle.types.proofs.Store.is_mono.Goals as goal

pub returns-then-r-lt-BASE : goal.returns-then-r-lt-BASE
returns-then-r-lt-BASE c = search mono_written

pub returns-else-r-lt-BASE : goal.returns-else-r-lt-BASE
returns-else-r-lt-BASE c = search mono_made
