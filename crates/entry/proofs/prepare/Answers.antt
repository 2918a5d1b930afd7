-- `prepare` meets its contract.
use Rattle.entry.proofs.Opening.{prepared, sized, loading, opens}
use Rattle.entry.proofs.prepare.Goals as goal

pub work_words-requires : goal.work_words-requires
work_words-requires c = search prepared

pub fill_ends-requires : goal.fill_ends-requires
fill_ends-requires c = search sized

pub load_context-requires : goal.load_context-requires
load_context-requires c = search loading

pub returns : goal.returns
returns c = search opens
