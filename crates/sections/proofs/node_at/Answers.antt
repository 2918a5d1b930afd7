-- `node_at` meets its contract.
use native.Mathlib.Omega.{arith}
use Rattle.sections.proofs.Nodes.{no_node, broken_off, met}
use Rattle.sections.proofs.node_at.Goals as goal

pub returns-then-saturating_sub-at : goal.returns-then-saturating_sub-at
returns-then-saturating_sub-at c = no_node _ _ (omega arith)

pub returns-then-not-whole_at : goal.returns-then-not-whole_at
returns-then-not-whole_at c = search broken_off

pub returns : goal.returns
returns c = search met
