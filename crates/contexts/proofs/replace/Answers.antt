-- `replace` meets its contract.
use Rattle.contexts.proofs.Build.{replaced}
use Rattle.contexts.proofs.replace.Goals as goal

pub returns : goal.returns
returns g c = replaced c.requires.0.below c.find-i.ensures c.well_formed.1.1.1.1.0.1.0.1 c.splice-o.ensures c.put_entries.ensures
