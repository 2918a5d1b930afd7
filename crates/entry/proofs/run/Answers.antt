-- `run` meets its contract.
use Rattle.entry.proofs.Running.{unpaid, finish_pre, runs}
use Rattle.entry.proofs.run.Goals as goal

pub returns-then-budget-a : goal.returns-then-budget-a
returns-then-budget-a c = search unpaid

pub finish-requires : goal.finish-requires
finish-requires c = search finish_pre

pub returns : goal.returns
returns c = search runs
