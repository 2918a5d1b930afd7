-- `read_entry` meets its contract.
use native.Mathlib.Omega.{arith}
use Rattle.std.proofs.lemmas.Grind.{common_steps}
use Rattle.reading.proofs.Items.{passed, on, off}
use Rattle.reading.proofs.Contexts.{entry_end, entry_none, entry_typed, entry_named}
use Rattle.reading.proofs.read_entry.Goals as goal

pub returns-in_err-code : goal.returns-in_err-code
returns-in_err-code c = rw (passed c.from_residual.ensures.1) (entry_end c.requires c.in_err-code.ensures)

pub returns-in_err-read_name-in-32 : goal.returns-in_err-read_name-in-32
returns-in_err-read_name-in-32 c =
    rw (passed c.from_residual-in_err-read_name-in-32.ensures.1)
    (entry_typed c.requires c.in_ok-code.ensures c.in_err-read_name-in-32.ensures (omega arith) off)

pub returns-in_ok-read_name-in-32 : goal.returns-in_ok-read_name-in-32
returns-in_ok-read_name-in-32 c =
    entry_typed c.requires c.in_ok-code.ensures c.in_ok-read_name-in-32.ensures (omega arith) (on c.read_type.ensures)

pub returns-in-33 : goal.returns-in-33
returns-in-33 c = entry_named c.requires c.in_ok-code.ensures c.read_name-in-33.ensures (grind (arith, common_steps))

pub returns-in_default : goal.returns-in_default
returns-in_default c = entry_none c.requires c.in_ok-code.ensures (grind (arith, common_steps)) c.bad_shape.ensures
