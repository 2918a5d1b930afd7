-- `work_words` meets its contract.
use mathlib.Core.Path.{refl}
use Rattle.definition.specs.Reply.{work_words}
use Rattle.entry.proofs.work_words.Goals as goal

pub returns : goal.returns
unfolding work_words
returns c = refl
