-- `answer` meets its contract.
use native.Mathlib.Omega.{arith}
use lib.Seq.{length-take-le}
use Rattle.sized.proofs.Answering.{within}
use Rattle.sized.proofs.answer.Goals as goal

pub returns : goal.returns
returns c = within _ _ (length-take-le _ _ (omega (arith, c.requires.0.report, c.requires.1))) c.requires.1 c.answer_words.ensures
