-- `infer_lit_int` meets its contract.
use Rattle.rules.proofs.Plain.{lit_int_done}
use Rattle.rules.proofs.infer_lit_int.Goals as goal

pub returns : goal.returns
returns c = lit_int_done c.requires c.plain_out.ensures
