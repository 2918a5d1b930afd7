-- `line` meets its contract: what is yet to write, written where the loop stands, makes the whole line.
use native.Mathlib.Omega.{arith}
use mathlib.Core.List.{[]}
use Rattle.lines.proofs.Lines.{wrote_byte, wrote_none, line_none, line_more, line_last}
use Rattle.lines.proofs.line.Goals as goal

pub returns-in_default : goal.returns-in_default
returns-in_default c = (line_none _ c.in_default.ensures.cases (wrote_byte [] 10 (wrote_none _ _) (omega arith)), omega arith)

pub loop-w-preserved : goal.loop-w-preserved
loop-w-preserved c =
    (omega arith, λ s z w. c.loop-w.invariant.1 s z (line_more _ c.in-Some.rest.now c.loop-w.w-index (omega arith) c.number-at.ensures.0 w))

pub returns : goal.returns
returns c =
    let e = c.in-Some.ensures.cases in
    (c.loop-w.invariant.1 _ _ (line_last _ c.in-Some.rest.now c.loop-w.w-index (omega arith) c.number.ensures.0), omega (arith, e))
