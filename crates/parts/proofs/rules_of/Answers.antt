-- `rules_of` meets its contract: after n turns the first n rules are listed.
use borrow.Author.Rules.{rules}
use Rattle.parts.proofs.Showing.{none_listed, all_listed, room_listed, less_left, one_listed}
use Rattle.parts.proofs.rules_of.Goals as goal

pub loop-node-init : goal.loop-node-init
loop-node-init c = search (none_listed, rules)

pub bounds-rules-n : goal.bounds-rules-n
bounds-rules-n c = room_listed c.loop-node.invariant.0 c.node_at.ensures c.in-Some.is

pub loop-node-smaller : goal.loop-node-smaller
loop-node-smaller c = less_left c.loop-node.invariant.0 c.node_at.ensures c.in-Some.is

pub loop-node-preserved : goal.loop-node-preserved
loop-node-preserved c = (one_listed c.loop-node.invariant.0 c.node_at.ensures c.in-Some.is, search rules)

pub returns : goal.returns
returns c = all_listed c.loop-node.invariant.0 c.node_at.ensures c.in_default.is
