-- `read_words` meets its contract.
use native.Mathlib.Omega.{arith}
use borrow.Author.Rules.{rules}
use Rattle.definition.specs.Host.{words_of}
use Rattle.wire.proofs.Bytes.{read_more}
use Rattle.wire.proofs.read_words.Goals as goal

pub loop-i-init : goal.loop-i-init
unfolding words_of
loop-i-init c = search rules

pub loop-i-preserved : goal.loop-i-preserved
loop-i-preserved c = read_more _ _ _ _ _ (omega arith) c.loop-i.invariant c.word_at.ensures
