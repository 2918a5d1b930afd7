-- `report_error` meets its contract.
use Rattle.std.proofs.lemmas.Result.{err_from_is_err_and}
use Rattle.writing.proofs.Spelling.{spelled_as}
use Rattle.report.proofs.Reports.{error_parts, reports_as, refused, writable, written}
use Rattle.report.proofs.report_error.Goals as goal

pub error_length-requires : goal.error_length-requires
error_length-requires c = spelled_as (error_parts c.slots_of-s.ensures) c.requires

pub returns-in_err-n : goal.returns-in_err-n
returns-in_err-n c =
    let p = err_from_is_err_and c.from_residual.result c.from_residual.ensures.1 in
    rw (p.1, p.2) (reports_as (error_parts c.slots_of-s.ensures) (refused c.error_length.ensures c.in_err-n.ensures))

pub write_error-requires : goal.write_error-requires
write_error-requires c = writable c.error_length.ensures (spelled_as (error_parts c.slots_of-s.ensures) c.requires) c.in_ok-n.ensures

pub returns : goal.returns
returns c = reports_as (error_parts c.slots_of-s.ensures) (written c.error_length.ensures c.in_ok-n.ensures c.write_error.ensures)
