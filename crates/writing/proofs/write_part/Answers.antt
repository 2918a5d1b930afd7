-- `write_part` meets its contract.
use Rattle.writing.proofs.Spelling.{writes_none}
use Rattle.writing.proofs.write_part.Goals as goal

pub returns-in-None : goal.returns-in-None
returns-in-None c = rw c.in-None.is (writes_none _ _)
