-- `read_context` meets its contract.
use native.Mathlib.Omega.{arith}
use Rattle.reading.proofs.Items.{passed}
use Rattle.reading.proofs.Contexts.{further, none_yet, one_more, no_more, fault_on}
use Rattle.reading.proofs.read_context.Goals as goal

pub loop-past-init : goal.loop-past-init
loop-past-init c = none_yet c.requires

pub returns-in_err-past : goal.returns-in_err-past
returns-in_err-past c =
    rw (passed c.from_residual.ensures.1) (fault_on c.loop-past.invariant c.loop-past-test.true c.in_err-past.ensures)

pub loop-past-smaller : goal.loop-past-smaller
loop-past-smaller c = omega (arith, further c.in_ok-past.ensures)

pub loop-past-preserved : goal.loop-past-preserved
loop-past-preserved c = one_more c.loop-past.invariant c.loop-past-test.true c.in_ok-past.ensures

pub returns : goal.returns
returns c = no_more c.loop-past.invariant c.loop-past-test.false
