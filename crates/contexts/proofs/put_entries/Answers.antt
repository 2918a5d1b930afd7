-- `put_entries` meets its contract: the entries passed stand there.
use native.Mathlib.Omega.{arith}
use Rattle.contexts.proofs.Build.{put_none, put_more, small_at}
use Rattle.contexts.proofs.put_entries.Goals as goal

pub loop-i-init : goal.loop-i-init
loop-i-init g c = put_none

pub put_entry-requires : goal.put_entry-requires
put_entry-requires g c = let long = c.well_formed in (omega arith, small_at _ _ c.requires.1 (omega arith))

pub loop-i-preserved : goal.loop-i-preserved
loop-i-preserved g c = let long = c.well_formed in put_more c.args.es _ (omega arith) c.loop-i.invariant c.put_entry.ensures
