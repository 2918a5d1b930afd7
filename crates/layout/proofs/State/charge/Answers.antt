-- `charge` meets its contract.
use Rattle.layout.specs.States.{on, unpaid}
use Rattle.layout.proofs.State.charge.Goals as goal

pub returns-then-self-c : goal.returns-then-self-c
returns-then-self-c c = search unpaid

pub returns : goal.returns
returns c = search on
