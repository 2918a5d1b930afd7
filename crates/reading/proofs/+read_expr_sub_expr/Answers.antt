-- `read_expr` and `sub_expr` meet their contracts.
use native.Mathlib.Omega.{arith}
use Rattle.std.proofs.lemmas.Grind.{common_steps}
use Rattle.reading.proofs.Items.{passed, on, off}
use Rattle.reading.proofs.Expressions.{expr_end, expr_var, expr_abs, expr_tabs, expr_let, expr_app, expr_typed, expr_if, expr_bool, expr_op, expr_int, expr_short, expr_none}
use Rattle.reading.proofs.+read_expr_sub_expr.Goals as goal

pub read_expr-returns-in_err-code : goal.read_expr-returns-in_err-code
read_expr-returns-in_err-code t c = rw (passed c.from_residual.ensures.1) (expr_end c.requires c.in_err-code.ensures)

pub read_expr-returns-in-16 : goal.read_expr-returns-in-16
read_expr-returns-in-16 t c =
    expr_var c.requires c.in_ok-code.ensures c.read_name.ensures c.in-16.is

pub read_expr-returns-in_err-sub_expr-in-17 : goal.read_expr-returns-in_err-sub_expr-in-17
read_expr-returns-in_err-sub_expr-in-17 t c =
    rw (passed c.from_residual-in_err-sub_expr-in-17.ensures.1)
    (expr_app c.requires c.in_ok-code.ensures c.in_err-sub_expr-in-17.ensures c.in-17.is off)

pub read_expr-returns-in_ok-sub_expr-in-17 : goal.read_expr-returns-in_ok-sub_expr-in-17
read_expr-returns-in_ok-sub_expr-in-17 t c =
    expr_app c.requires c.in_ok-code.ensures c.in_ok-sub_expr-in-17.ensures c.in-17.is (on c.sub_expr-in-17.ensures)

pub read_expr-returns-in_err-read_name-in-18 : goal.read_expr-returns-in_err-read_name-in-18
read_expr-returns-in_err-read_name-in-18 t c =
    rw (passed c.from_residual-in_err-read_name-in-18.ensures.1)
    (expr_abs c.requires c.in_ok-code.ensures c.in_err-read_name-in-18.ensures c.in-18.is off off)

pub read_expr-returns-in_err-read_type-in-18 : goal.read_expr-returns-in_err-read_type-in-18
read_expr-returns-in_err-read_type-in-18 t c =
    rw (passed c.from_residual-in_err-read_type-in-18.ensures.1)
    (expr_abs c.requires c.in_ok-code.ensures c.in_ok-read_name-in-18.ensures c.in-18.is (on c.in_err-read_type-in-18.ensures) off)

pub read_expr-returns-in_ok-read_type-in-18 : goal.read_expr-returns-in_ok-read_type-in-18
read_expr-returns-in_ok-read_type-in-18 t c =
    expr_abs c.requires c.in_ok-code.ensures c.in_ok-read_name-in-18.ensures c.in-18.is (on c.in_ok-read_type-in-18.ensures) (on c.sub_expr-in-18.ensures)

pub read_expr-returns-in_err-sub_expr-in-19 : goal.read_expr-returns-in_err-sub_expr-in-19
read_expr-returns-in_err-sub_expr-in-19 t c =
    rw (passed c.from_residual-in_err-sub_expr-in-19.ensures.1)
    (expr_typed c.requires c.in_ok-code.ensures c.in_err-sub_expr-in-19.ensures (omega arith) off)

pub read_expr-returns-in_err-read_type-in-19 : goal.read_expr-returns-in_err-read_type-in-19
read_expr-returns-in_err-read_type-in-19 t c =
    rw (passed c.from_residual-in_err-read_type-in-19.ensures.1)
    (expr_typed c.requires c.in_ok-code.ensures c.in_ok-sub_expr-in-19.ensures (omega arith) (on c.in_err-read_type-in-19.ensures))

pub read_expr-returns-in_ok-read_type-in-19 : goal.read_expr-returns-in_ok-read_type-in-19
read_expr-returns-in_ok-read_type-in-19 t c =
    expr_typed c.requires c.in_ok-code.ensures c.in_ok-sub_expr-in-19.ensures (omega arith) (on c.in_ok-read_type-in-19.ensures)

pub read_expr-returns-in_err-read_name-in-20 : goal.read_expr-returns-in_err-read_name-in-20
read_expr-returns-in_err-read_name-in-20 t c =
    rw (passed c.from_residual-in_err-read_name-in-20.ensures.1)
    (expr_tabs c.requires c.in_ok-code.ensures c.in_err-read_name-in-20.ensures c.in-20.is off)

pub read_expr-returns-in_ok-read_name-in-20 : goal.read_expr-returns-in_ok-read_name-in-20
read_expr-returns-in_ok-read_name-in-20 t c =
    expr_tabs c.requires c.in_ok-code.ensures c.in_ok-read_name-in-20.ensures c.in-20.is (on c.sub_expr-in-20.ensures)

pub read_expr-returns-then-end-past : goal.read_expr-returns-then-end-past
read_expr-returns-then-end-past t c = expr_short c.requires c.in_ok-code.ensures c.in-22.is c.if-end-past.true c.bad_shape.ensures

pub read_expr-returns-else-end-past : goal.read_expr-returns-else-end-past
read_expr-returns-else-end-past t c = expr_int c.requires c.in_ok-code.ensures c.in-22.is c.if-end-past.false

pub read_expr-returns-in-23 : goal.read_expr-returns-in-23
read_expr-returns-in-23 t c =
    expr_bool c.requires c.in_ok-code.ensures c.in-23.is c.read_within.ensures

pub read_expr-returns-in_err-read_name-in-24 : goal.read_expr-returns-in_err-read_name-in-24
read_expr-returns-in_err-read_name-in-24 t c =
    rw (passed c.from_residual-in_err-read_name-in-24.ensures.1)
    (expr_let c.requires c.in_ok-code.ensures c.in_err-read_name-in-24.ensures c.in-24.is off off)

pub read_expr-returns-in_err-sub_expr-in-24 : goal.read_expr-returns-in_err-sub_expr-in-24
read_expr-returns-in_err-sub_expr-in-24 t c =
    rw (passed c.from_residual-in_err-sub_expr-in-24.ensures.1)
    (expr_let c.requires c.in_ok-code.ensures c.in_ok-read_name-in-24.ensures c.in-24.is (on c.in_err-sub_expr-in-24.ensures) off)

pub read_expr-returns-in_ok-sub_expr-in-24 : goal.read_expr-returns-in_ok-sub_expr-in-24
read_expr-returns-in_ok-sub_expr-in-24 t c =
    expr_let c.requires c.in_ok-code.ensures c.in_ok-read_name-in-24.ensures c.in-24.is (on c.in_ok-sub_expr-in-24.ensures) (on c.sub_expr-in-24-2.ensures)

pub read_expr-returns-in_err-sub_expr-in-25 : goal.read_expr-returns-in_err-sub_expr-in-25
read_expr-returns-in_err-sub_expr-in-25 t c =
    rw (passed c.from_residual-in_err-sub_expr-in-25.ensures.1)
    (expr_if c.requires c.in_ok-code.ensures c.in_err-sub_expr-in-25.ensures c.in-25.is off off)

pub read_expr-returns-in_err-sub_expr-in-25-2 : goal.read_expr-returns-in_err-sub_expr-in-25-2
read_expr-returns-in_err-sub_expr-in-25-2 t c =
    rw (passed c.from_residual-in_err-sub_expr-in-25-2.ensures.1)
    (expr_if c.requires c.in_ok-code.ensures c.in_ok-sub_expr-in-25.ensures c.in-25.is (on c.in_err-sub_expr-in-25-2.ensures) off)

pub read_expr-returns-in_ok-sub_expr-in-25-2 : goal.read_expr-returns-in_ok-sub_expr-in-25-2
read_expr-returns-in_ok-sub_expr-in-25-2 t c =
    expr_if c.requires c.in_ok-code.ensures c.in_ok-sub_expr-in-25.ensures c.in-25.is (on c.in_ok-sub_expr-in-25-2.ensures) (on c.sub_expr-in-25-3.ensures)

pub read_expr-returns-in_err-read_within-in-26 : goal.read_expr-returns-in_err-read_within-in-26
read_expr-returns-in_err-read_within-in-26 t c =
    rw (passed c.from_residual-in_err-read_within-in-26.ensures.1)
    (expr_op c.requires c.in_ok-code.ensures c.in-26.is c.in_err-read_within-in-26.ensures off off)

pub read_expr-returns-in_err-sub_expr-in-26 : goal.read_expr-returns-in_err-sub_expr-in-26
read_expr-returns-in_err-sub_expr-in-26 t c =
    rw (passed c.from_residual-in_err-sub_expr-in-26.ensures.1)
    (expr_op c.requires c.in_ok-code.ensures c.in-26.is c.in_ok-read_within-in-26.ensures (on c.in_err-sub_expr-in-26.ensures) off)

pub read_expr-returns-in_ok-sub_expr-in-26 : goal.read_expr-returns-in_ok-sub_expr-in-26
read_expr-returns-in_ok-sub_expr-in-26 t c =
    expr_op c.requires c.in_ok-code.ensures c.in-26.is c.in_ok-read_within-in-26.ensures (on c.in_ok-sub_expr-in-26.ensures) (on c.sub_expr-in-26-2.ensures)

pub read_expr-returns-in_default : goal.read_expr-returns-in_default
read_expr-returns-in_default t c = expr_none c.requires c.in_ok-code.ensures (grind (arith, common_steps)) c.bad_shape-in_default.ensures
