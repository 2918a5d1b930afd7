-- `tabs_out` meets its contract.
use Rattle.rules.proofs.Ends.{tabs_kept}
use Rattle.rules.proofs.tabs_out.Goals as goal

pub returns : goal.returns
returns c = rw c.plain_out.ensures.is (tabs_kept c.requires c.put_forall-ty.ensures c.raise.ensures c.solved_and_right-o.ensures)
