-- `push` meets its contract.
use Rattle.contexts.proofs.Build.{pushed}
use Rattle.contexts.proofs.push.Goals as goal

pub returns : goal.returns
returns g c = pushed c.requires.0.below c.well_formed.1.1.1.0.1.0.1 c.splice-o.ensures c.put_entries.ensures
