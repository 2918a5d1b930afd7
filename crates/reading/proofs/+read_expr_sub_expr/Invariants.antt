-- The measures of `read_expr` and `sub_expr`: the words left, twice, and one more for the step between them.
use Prim.Native.Nat.{◌+◌, ◌-◌, ◌*◌}
use Rattle.reading.proofs.+read_expr_sub_expr.Given as goal

abbrev pub decreases-read_expr : goal.decreases-read_expr
decreases-read_expr l = 2 * (l.end - l.p)

abbrev pub decreases-sub_expr : goal.decreases-sub_expr
decreases-sub_expr l = 2 * (l.end - l.p) + 1
