-- `infer_var` meets its contract.
use Rattle.rules.proofs.Plain.{var_refused, var_done}
use Rattle.rules.proofs.infer_var.Goals as goal

pub returns-in-Some : goal.returns-in-Some
returns-in-Some c = var_done c.requires c.var_of-x.ensures c.in-Some.ensures c.plain_out.ensures

pub returns-in-None : goal.returns-in-None
returns-in-None c = rw c.fail.ensures (var_refused c.requires c.var_of-x.ensures c.in-None.ensures)
