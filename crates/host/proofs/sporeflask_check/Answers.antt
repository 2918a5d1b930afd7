-- `sporeflask_check` meets its contract.
use Rattle.host.proofs.Replying.{checked_in}
use Rattle.host.proofs.sporeflask_check.Goals as goal

pub returns : goal.returns
returns c = search checked_in
