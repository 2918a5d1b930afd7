-- `part_of` meets its contract.
use borrow.Author.Rules.{rules}
use mathlib.Core.Path.{◌≡◌}
use native.Mathlib.Omega.{arith}
use Rattle.sections.proofs.Sections.{part_of_lem, next_of, first_of}
use Rattle.sections.proofs.part_of.Goals as goal

pub loop-init : goal.loop-init
loop-init c = search (first_of, rules)

pub loop-preserved : goal.loop-preserved
loop-preserved c = search (next_of, rules)

pub returns : goal.returns
returns c =
    let e : c.loop.counter ≡ c.args.k = omega arith in
    part_of_lem _ _ _ c.min-n.result _ (omega arith) (rw (← e) c.loop.invariant.0) c.loop.invariant.1 c.loop.invariant.2
