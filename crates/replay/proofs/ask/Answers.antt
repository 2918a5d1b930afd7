-- `ask` meets its contract.
use lib.Seq.{length-take-le}
use Rattle.replay.proofs.Replaying.{asked}
use Rattle.replay.proofs.ask.Goals as goal

pub returns : goal.returns
returns c =
    asked c.args.f _ _ _ (length-take-le _ _ c.requires.work) (length-take-le _ _ c.requires.report) c.read_words.ensures c.check.ensures
