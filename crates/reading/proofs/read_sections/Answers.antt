-- `read_sections` meets its contract.
use mathlib.Core.Path.{refl}
use Rattle.reading.proofs.Items.{passed}
use Rattle.reading.proofs.Questions.{on, off, four, sections_more, sections_asked, sections_refused}
use Rattle.reading.proofs.read_sections.Goals as goal

pub returns-in_err-context : goal.returns-in_err-context
returns-in_err-context c =
    rw (passed c.from_residual.ensures.1)
    (sections_refused c.args.mode (four c.plan_of-a.ensures c.in_err-context.ensures off off off))

pub returns-in_err-expr : goal.returns-in_err-expr
returns-in_err-expr c =
    rw (passed c.from_residual-in_err-expr.ensures.1)
    (sections_refused c.args.mode (four c.plan_of-a.ensures c.in_ok-context.ensures (on c.in_err-expr.ensures) off off))

pub returns-in_err-left : goal.returns-in_err-left
returns-in_err-left c =
    rw (passed c.from_residual-in_err-left.ensures.1)
    (sections_refused c.args.mode (four c.plan_of-a.ensures c.in_ok-context.ensures (on c.in_ok-expr.ensures) (on c.in_err-left.ensures) off))

pub returns-in_err-right : goal.returns-in_err-right
returns-in_err-right c =
    rw (passed c.from_residual-in_err-right.ensures.1)
    (sections_refused c.args.mode (four c.plan_of-a.ensures c.in_ok-context.ensures (on c.in_ok-expr.ensures) (on c.in_ok-left.ensures) (on c.in_err-right.ensures)))

pub returns-then-right-q : goal.returns-then-right-q
returns-then-right-q c =
    sections_more c.args.mode (four c.plan_of-a.ensures c.in_ok-context.ensures (on c.in_ok-expr.ensures) (on c.in_ok-left.ensures) (on c.in_ok-right.ensures)) c.if-right-q.true c.bad_shape.ensures

pub returns : goal.returns
returns c =
    sections_asked c.args.mode (four c.plan_of-a.ensures c.in_ok-context.ensures (on c.in_ok-expr.ensures) (on c.in_ok-left.ensures) (on c.in_ok-right.ensures)) _ c.if-right-q.false refl refl refl refl refl refl refl
