-- `report_result` meets its contract.
use Rattle.std.proofs.lemmas.Result.{err_from_is_err_and}
use Rattle.writing.proofs.Spelling.{spelled_as}
use Rattle.report.proofs.Reports.{result_parts, reports_as, refused, writable, written}
use Rattle.report.proofs.report_result.Goals as goal

pub result_length-requires : goal.result_length-requires
result_length-requires c = spelled_as (result_parts _ c.then_some-ty.ensures c.gives_type.ensures) c.requires

pub returns-in_err-n : goal.returns-in_err-n
returns-in_err-n c =
    let p = err_from_is_err_and c.from_residual.result c.from_residual.ensures.1 in
    rw (p.1, p.2) (reports_as (result_parts _ c.then_some-ty.ensures c.gives_type.ensures) (refused c.result_length.ensures c.in_err-n.ensures))

pub write_result-requires : goal.write_result-requires
write_result-requires c =
    writable c.result_length.ensures (spelled_as (result_parts _ c.then_some-ty.ensures c.gives_type.ensures) c.requires) c.in_ok-n.ensures

pub returns : goal.returns
returns c =
    reports_as (result_parts _ c.then_some-ty.ensures c.gives_type.ensures) (written c.result_length.ensures c.in_ok-n.ensures c.write_result.ensures)
