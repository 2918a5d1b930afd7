-- `row_of` meets its contract.
use native.Mathlib.Omega.{arith}
use Rattle.loading.proofs.Table.{base_row, name_row}
use Rattle.loading.proofs.ends.row_of.Goals.{in_default-via-then-q-p-lt1, in_default-via-else-q-p-lt1+else-this-lt3+else-this-lt5}
use Rattle.loading.proofs.ends.row_of.Goals as goal

pub other_row-requires : goal.other_row-requires
other_row-requires c = (
  c.requires,
  record {
    code = λ l. elim c.in_default.branch [
      | in_default-via-then-q-p-lt1 w ↦ omega arith
      | in_default-via-else-q-p-lt1+else-this-lt3+else-this-lt5 w ↦ omega arith
    ];
  },
)

pub returns-in-1-to-2 : goal.returns-in-1-to-2
returns-in-1-to-2 c = base_row c.requires (omega arith) (omega arith)

pub returns-in-3-to-4 : goal.returns-in-3-to-4
returns-in-3-to-4 c = name_row c.requires (omega arith) (omega arith)
