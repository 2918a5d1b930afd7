-- `put_reply` meets its contract.
use Rattle.wire.proofs.Bytes.{put_both}
use borrow.Author.Rules.{rules}
use Rattle.wire.proofs.put_reply.Goals as goal

pub returns : goal.returns
returns c = search (put_both, rules)
