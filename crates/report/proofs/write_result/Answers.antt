-- `write_result` meets its contract.
use Rattle.writing.proofs.Spelling.{writable_first, writable_next, writes_then}
use Rattle.writing.proofs.After.{stands_written}
use Rattle.report.proofs.write_result.Goals as goal

pub write_section-at-requires : goal.write_section-at-requires
write_section-at-requires c = search writable_first

pub write_context-end-requires : goal.write_context-end-requires
write_context-end-requires c = writable_first (writable_next c.requires c.write_section-at.ensures)

pub write_tree-requires : goal.write_tree-requires
write_tree-requires c =
    let x₁ = writable_next c.requires c.write_section-at.ensures in
    (writable_next x₁ c.write_context-end.ensures, stands_written (writable_first x₁) c.write_context-end.ensures)

pub returns : goal.returns
returns c = search writes_then
