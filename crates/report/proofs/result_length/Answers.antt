-- `result_length` meets its contract.
use Rattle.writing.proofs.Spelling.{long_then}
use Rattle.report.proofs.result_length.Goals as goal

pub returns : goal.returns
returns c = search long_then
