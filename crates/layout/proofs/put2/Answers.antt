-- `put2` meets its contract.
use Rattle.layout.proofs.Words.{put_two}
use Rattle.layout.proofs.put2.Goals as goal

pub returns : goal.returns
returns c = rw (c.put-2.ensures, c.put.ensures) (put_two _ _ _ _ c.requires.0)
