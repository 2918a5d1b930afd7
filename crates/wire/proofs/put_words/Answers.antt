-- `put_words` meets its contract.
use borrow.Author.Rules.{rules}
use Rattle.wire.proofs.Bytes.{put_more}
use Rattle.wire.proofs.put_words.Goals as goal

pub loop-i-preserved : goal.loop-i-preserved
loop-i-preserved c = search (rules, put_more)
