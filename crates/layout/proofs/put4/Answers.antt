-- `put4` meets its contract.
use Rattle.layout.proofs.Words.{put_four}
use Rattle.layout.proofs.put4.Goals as goal

pub returns : goal.returns
returns c = rw (c.put-4.ensures, c.put-3.ensures, c.put-2.ensures, c.put.ensures) (put_four _ _ _ _ _ _ c.requires.0)
