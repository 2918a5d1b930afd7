-- `part_length` meets its contract.
use Rattle.std.proofs.Common.{[], arith}
use Rattle.writing.proofs.Spelling.{long_just}
use Rattle.writing.proofs.Types.{type_held, long_type}
use Rattle.writing.proofs.part_length.Goals as goal

pub type_length-requires : goal.type_length-requires
type_length-requires c = type_held (rw c.in-Some.is at c.requires)

pub returns-in-Some : goal.returns-in-Some
returns-in-Some c = rw c.in-Some.is (long_type c.type_length.ensures)

pub returns-in-None : goal.returns-in-None
returns-in-None c = rw c.in-None.is (long_just [] (omega arith))
