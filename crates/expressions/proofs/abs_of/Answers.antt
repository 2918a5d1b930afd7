-- `abs_of` meets its contract.
use Rattle.expressions.proofs.Forms.{second_word, abs_of}
use Rattle.expressions.proofs.abs_of.Goals as goal

pub returns : goal.returns
returns c = let inside = second_word c.requires.at in search abs_of
