-- `read_within` meets its contract.
use native.Mathlib.Omega.{arith}
use Prim.Native.Nat.{◌≤◌}
use Rattle.std.proofs.lemmas.Grind.{common_steps}
use Rattle.reading.proofs.Items.{passed, within_end, within_past, within_none}
use Rattle.reading.proofs.read_within.Goals as goal

pub returns-in_err-n : goal.returns-in_err-n
returns-in_err-n c = rw (passed c.from_residual.ensures.1) (within_end c.requires c.args.low c.args.high c.in_err-n.ensures)

pub returns-then-contains : goal.returns-then-contains
returns-then-contains c =
    let k : c.args.low ≤ c.in_ok-n.n = grind (arith, common_steps) in
    let l : c.in_ok-n.n ≤ c.args.high = grind (arith, common_steps) in
    within_past c.requires _ _ c.in_ok-n.ensures k l

pub returns : goal.returns
returns c =
    rw c.bad_shape.ensures
    (within_none c.requires c.args.low c.args.high c.in_ok-n.ensures
    (λ l m. grind (arith, common_steps, c.if-contains.ensures.value, c.new.ensures)))
