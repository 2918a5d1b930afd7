-- `write_error` meets its contract.
use Rattle.writing.proofs.Spelling.{writable_first, writable_next, writes_then}
use Rattle.report.proofs.write_error.Goals as goal

pub write_section-second-requires : goal.write_section-second-requires
write_section-second-requires c = search writable_first

pub write_section-requires : goal.write_section-requires
write_section-requires c = search writable_next

pub returns : goal.returns
returns c = search writes_then
