-- `same_var` meets its contract: no pair that was passed has one of the two names.
use Rattle.walks.proofs.Letters.{both_free, left_bound, right_bound, neither_bound}
use Rattle.walks.proofs.same_var.Goals as goal

pub returns-then-eq : goal.returns-then-eq
returns-then-eq c = left_bound c.loop-i.invariant c.loop-i-test.true c.if-eq.ensures c.eq-then-eq.ensures

pub returns-then-eq-2 : goal.returns-then-eq-2
returns-then-eq-2 c = right_bound c.loop-i.invariant c.loop-i-test.true c.if-eq.ensures c.if-eq-2.ensures

pub loop-i-preserved : goal.loop-i-preserved
loop-i-preserved c = neither_bound c.loop-i.invariant c.loop-i-test.true c.if-eq.ensures c.if-eq-2.ensures

pub returns : goal.returns
returns c = both_free c.loop-i.invariant c.loop-i-test.false c.eq-2.ensures
