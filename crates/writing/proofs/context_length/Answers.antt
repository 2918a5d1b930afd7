-- `context_length` meets its contract.
use Rattle.std.proofs.Common.{arith}
use Rattle.writing.proofs.Spelling.{spelled_as, spelled_first, long_section}
use Rattle.writing.proofs.Loops.{sum_next, sum_end}
use Rattle.writing.proofs.Contexts.{entries_first, entries_none}
use Rattle.writing.proofs.context_length.Goals as goal

pub entry_length-requires : goal.entry_length-requires
entry_length-requires c = spelled_first (spelled_as (entries_first _ c.loop-k-test.true) c.loop-k.invariant.rest)

pub loop-k-preserved : goal.loop-k-preserved
loop-k-preserved c = sum_next (entries_first _ c.loop-k-test.true) c.loop-k.invariant c.entry_length.ensures c.sum-total.ensures

pub returns : goal.returns
returns c = long_section (sum_end (entries_none _ c.loop-k-test.false) c.loop-k.invariant) (omega arith) c.sum.ensures
