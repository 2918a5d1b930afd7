-- `write_entry` meets its contract.
use Rattle.std.proofs.Common.{ℕ, length, refl, ap, arith}
use lib.ListN.{length-set}
use Rattle.writing.proofs.Spelling.{just_room, writable_as, writable_first, writable_next, writes_as, writes_then, writes_two}
use Rattle.writing.proofs.Contexts.{entry_parts}
use Rattle.writing.proofs.write_entry.Goals as goal

pub put-requires : goal.put-requires
put-requires c =
    let r = just_room (writable_first (writable_as (entry_parts c.word.ensures.0 refl refl) c.requires)) in (omega (arith, r.room), c.word.ensures.1)

pub put-requires-2 : goal.put-requires-2
put-requires-2 c =
    let r = just_room (writable_first (writable_as (entry_parts refl c.word-2.ensures.0 refl) c.requires)) in
    (omega (arith, r.room, ap length c.put.ensures, length-set {A = ℕ}), c.word-2.ensures.1)

pub write_part-requires : goal.write_part-requires
write_part-requires c =
    writable_next (writable_as (entry_parts c.word.ensures.0 c.word-2.ensures.0 c.held.ensures) c.requires) (writes_two c.put.ensures c.put-2.ensures)

pub returns : goal.returns
returns c =
    writes_as (entry_parts c.word.ensures.0 c.word-2.ensures.0 c.held.ensures) (writes_then (writes_two c.put.ensures c.put-2.ensures) c.write_part.ensures)
