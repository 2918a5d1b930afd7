-- `entry` meets its contract.
use Rattle.judging.proofs.Entries.{from_here}
use Rattle.judging.proofs.entry.Goals as goal

pub returns : goal.returns
returns c = search from_here
