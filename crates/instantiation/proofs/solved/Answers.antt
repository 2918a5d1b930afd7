-- `solved` meets its contract.
use native.Mathlib.Omega.{arith}
use Rattle.contexts.proofs.Build.{small_one}
use Rattle.judging.proofs.Entries.{entry_small}
use Rattle.instantiation.proofs.solved.Goals as goal

pub replace-o-requires : goal.replace-o-requires
replace-o-requires c = (omega arith, (c.requires.0, small_one (entry_small c.entry-e.ensures c.requires.1)))
