-- `read_type` meets its contract.
use native.Mathlib.Omega.{arith}
use Rattle.std.proofs.lemmas.Grind.{common_steps}
use Rattle.reading.proofs.Items.{passed, on, off}
use Rattle.reading.proofs.Types.{type_end, type_base, type_named, type_forall, type_arrow, type_none}
use Rattle.reading.proofs.+read_type.Goals as goal

pub returns-in_err-code : goal.returns-in_err-code
returns-in_err-code t c = rw (passed c.from_residual.ensures.1) (type_end c.requires c.in_err-code.ensures)

pub returns-in-1 : goal.returns-in-1
returns-in-1 t c = type_base c.requires c.in_ok-code.ensures (omega arith)

pub returns-in-3 : goal.returns-in-3
returns-in-3 t c = type_named c.requires c.in_ok-code.ensures c.read_name-in-3.ensures (omega arith)

pub returns-in_err-read_type-in-5 : goal.returns-in_err-read_type-in-5
returns-in_err-read_type-in-5 t c =
    rw (passed c.from_residual-in_err-read_type-in-5.ensures.1)
    (type_arrow c.requires c.in_ok-code.ensures c.in-5.is c.in_err-read_type-in-5.ensures off)

pub returns-in_err-read_type-in-5-2 : goal.returns-in_err-read_type-in-5-2
returns-in_err-read_type-in-5-2 t c =
    rw (passed c.from_residual-in_err-read_type-in-5-2.ensures.1)
    (type_arrow c.requires c.in_ok-code.ensures c.in-5.is c.in_ok-read_type-in-5.ensures (on c.in_err-read_type-in-5-2.ensures))

pub returns-in_ok-read_type-in-5-2 : goal.returns-in_ok-read_type-in-5-2
returns-in_ok-read_type-in-5-2 t c =
    type_arrow c.requires c.in_ok-code.ensures c.in-5.is c.in_ok-read_type-in-5.ensures (on c.in_ok-read_type-in-5-2.ensures)

pub returns-in_err-read_name-in-6 : goal.returns-in_err-read_name-in-6
returns-in_err-read_name-in-6 t c =
    rw (passed c.from_residual-in_err-read_name-in-6.ensures.1)
    (type_forall c.requires c.in_ok-code.ensures c.in_err-read_name-in-6.ensures c.in-6.is off)

pub returns-in_err-read_type-in-6 : goal.returns-in_err-read_type-in-6
returns-in_err-read_type-in-6 t c =
    rw (passed c.from_residual-in_err-read_type-in-6.ensures.1)
    (type_forall c.requires c.in_ok-code.ensures c.in_ok-read_name-in-6.ensures c.in-6.is (on c.in_err-read_type-in-6.ensures))

pub returns-in_ok-read_type-in-6 : goal.returns-in_ok-read_type-in-6
returns-in_ok-read_type-in-6 t c =
    type_forall c.requires c.in_ok-code.ensures c.in_ok-read_name-in-6.ensures c.in-6.is (on c.in_ok-read_type-in-6.ensures)

pub returns-in_default : goal.returns-in_default
returns-in_default t c = type_none c.requires c.in_ok-code.ensures (grind (arith, common_steps)) c.bad_shape.ensures
