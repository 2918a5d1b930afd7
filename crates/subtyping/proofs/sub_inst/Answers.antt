-- `sub_inst` meets its contract.
use Rattle.instantiation.proofs.Handing.{hands}
use Rattle.subtyping.proofs.Rules.{inst_first, inst_else, inst_done}
use Rattle.subtyping.proofs.sub_inst.Goals as goal

pub inst-requires : goal.inst-requires
inst-requires c = inst_first c.requires c.one-unknown.ensures c.one-ty.ensures

pub returns-in_err-r : goal.returns-in_err-r
returns-in_err-r c =
    hands c.in_err-r.was c.from_residual.ensures (inst_else c.requires c.one-unknown.ensures c.one-ty.ensures c.inst.ensures)

pub returns : goal.returns
returns c =
    inst_done c.requires c.one-unknown.ensures c.one-ty.ensures c.inst.ensures c.in_ok-r.was c.number.ensures.0 c.one-rule.ensures
    c.plain_out.ensures
