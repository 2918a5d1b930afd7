-- `section_length` meets its contract.
use Rattle.std.proofs.Common.{arith}
use Rattle.writing.proofs.Spelling.{long_section}
use Rattle.writing.proofs.section_length.Goals as goal

pub returns : goal.returns
returns c = long_section c.part_length.ensures (omega arith) c.sum.ensures
