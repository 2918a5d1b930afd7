-- `refuse_app` meets its contract.
use Rattle.rules.proofs.Plain.{app_refused}
use Rattle.rules.proofs.refuse_app.Goals as goal

pub returns : goal.returns
returns c = rw c.fail.ensures (app_refused c.requires)
