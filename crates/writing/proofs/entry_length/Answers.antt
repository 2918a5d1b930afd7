-- `entry_length` meets its contract.
use Rattle.std.proofs.Common.{refl, arith}
use Rattle.writing.proofs.Spelling.{spelled_as, spelled_second, long_as, long_after}
use Rattle.writing.proofs.Contexts.{entry_parts}
use Rattle.writing.proofs.entry_length.Goals as goal

pub part_length-requires : goal.part_length-requires
part_length-requires c = spelled_second (spelled_as (entry_parts refl refl c.held.ensures) c.requires)

pub returns : goal.returns
returns c = long_as (entry_parts refl refl c.held.ensures) (long_after _ c.part_length.ensures (omega arith) c.sum.ensures)
