-- `solved_and_right` meets its contract.
use Rattle.contexts.proofs.Kept.{kept_both}
use Rattle.contexts.proofs.solved_and_right.Goals as goal

pub returns : goal.returns
returns c = search kept_both
