-- `infer_lit_bool` meets its contract.
use Rattle.rules.proofs.Plain.{lit_bool_done}
use Rattle.rules.proofs.infer_lit_bool.Goals as goal

pub returns : goal.returns
returns c = lit_bool_done c.requires c.plain_out.ensures
