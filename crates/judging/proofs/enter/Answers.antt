-- `enter` meets its contract.
use Rattle.std.proofs.lemmas.Result.{err_from_is_err_and}
use Rattle.judging.proofs.Paying.{enter_spent, enter_in}
use Rattle.judging.proofs.enter.Goals as goal

pub returns-in_err-paid : goal.returns-in_err-paid
returns-in_err-paid c =
    let p = err_from_is_err_and c.from_residual.result c.from_residual.ensures.1 in
    rw p.1 (enter_spent c.charge.ensures c.in_err-paid.was)

pub returns : goal.returns
returns c = enter_in c.charge.ensures c.in_ok-paid.was c.lower.ensures
