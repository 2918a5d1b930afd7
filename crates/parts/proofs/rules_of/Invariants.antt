-- `rules_of`: after n turns the first n rules are listed.
use mathlib.Core.Path.{◌≡◌}
use Prim.Native.Nat.{◌-◌}
use lib.ListN.{length}
use Rattle.parts.proofs.Showing.{Listed}
use Rattle.parts.proofs.rules_of.Given as goal

abbrev pub invariant-loop-node : goal.invariant-loop-node
invariant-loop-node l = (Listed l.tree l.rules l.at l.n) × (length l.rules ≡ length l.initial.rules)

abbrev pub decreases-loop-node : goal.decreases-loop-node
decreases-loop-node l = length l.tree - l.at
