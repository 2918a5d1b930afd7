-- `subtype_applied` meets its contract.
use Rattle.judging.proofs.Steps.{stop_is}
use Rattle.inference.proofs.Related.{related_ask, related_end, related_done}
use Rattle.inference.proofs.subtype_applied.Goals as goal

pub returns-in_err-both : goal.returns-in_err-both
returns-in_err-both c = rw (stop_is _ c.from_residual.ensures.1) (related_end c.apply_both.ensures c.in_err-both.was)

pub subtype-requires : goal.subtype-requires
subtype-requires c = related_ask c.apply_both.ensures c.in_ok-both.was c.requires

pub returns : goal.returns
returns c = related_done c.apply_both.ensures c.in_ok-both.was c.subtype.ensures
