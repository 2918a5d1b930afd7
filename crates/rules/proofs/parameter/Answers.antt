-- `parameter` meets its contract.
use Rattle.judging.proofs.Steps.{stop_is}
use Rattle.rules.proofs.Between.{comparing, not_compared, parameter_spent, parameter_same, parameter_other}
use Rattle.rules.proofs.parameter.Goals as goal

pub returns-then-not-h : goal.returns-then-not-h
returns-then-not-h c = not_compared c.if-not-h.true

pub returns-in_err-applied : goal.returns-in_err-applied
returns-in_err-applied c =
    rw (stop_is _ c.from_residual.ensures.1) (parameter_spent c.if-not-h.false c.apply_ctx_type.ensures c.in_err-applied.was)

pub same_type-requires : goal.same_type-requires
same_type-requires c = comparing c.requires c.apply_ctx_type.ensures c.in_ok-applied.was

pub returns-then-same_type : goal.returns-then-same_type
returns-then-same_type c =
    parameter_same c.if-not-h.false c.apply_ctx_type.ensures c.in_ok-applied.was c.same_type.ensures c.requires.two.room c.if-same_type.true

pub returns : goal.returns
returns c =
    rw c.fail.ensures (parameter_other c.if-not-h.false c.apply_ctx_type.ensures c.in_ok-applied.was c.same_type.ensures c.requires.two.room
    c.if-same_type.false)
