-- `check_lit` meets its contract.
use Rattle.rules.proofs.Plain.{check_lit_done}
use Rattle.rules.proofs.check_lit.Goals as goal

pub returns : goal.returns
returns c = check_lit_done c.requires.0 c.requires.1 c.number.ensures.0 c.plain_out.ensures
