-- `answer` meets its contract.
use native.Mathlib.Omega.{arith}
use Rattle.replay.proofs.Replaying.{replayed}
use Rattle.replay.proofs.answer.Goals as goal

pub returns : goal.returns
returns c = replayed c.args.f _ c.ask-r.ensures c.numbers.ensures c.written-n.ensures c.put_reply.ensures (omega arith)
