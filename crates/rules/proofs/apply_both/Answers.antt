-- `apply_both` meets its contract.
use Rattle.judging.proofs.Steps.{stop_is}
use Rattle.rules.proofs.Between.{apply_then, as_they_are, first_spent, second_spent, both_done}
use Rattle.rules.proofs.apply_both.Goals as goal

pub returns-then-not-applies : goal.returns-then-not-applies
returns-then-not-applies c = rw c.if-not-applies.true as_they_are

pub returns-in_err-first : goal.returns-in_err-first
returns-in_err-first c =
    rw (c.if-not-applies.false, stop_is _ c.from_residual.ensures.1) (first_spent c.apply_ctx_type.ensures c.in_err-first.was)

pub apply_ctx_type-requires-2 : goal.apply_ctx_type-requires-2
apply_ctx_type-requires-2 c = apply_then c.requires c.apply_ctx_type.ensures c.in_ok-first.was

pub returns-in_err-second : goal.returns-in_err-second
returns-in_err-second c =
    rw (c.if-not-applies.false, stop_is _ c.from_residual-in_err-second.ensures.1) (second_spent c.apply_ctx_type.ensures c.in_ok-first.was c.apply_ctx_type-2.ensures c.in_err-second.was)

pub returns : goal.returns
returns c =
    rw c.if-not-applies.false (both_done c.apply_ctx_type.ensures c.in_ok-first.was c.apply_ctx_type-2.ensures c.in_ok-second.was)
