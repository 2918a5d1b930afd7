-- `arrow_row` meets its contract.
use Rattle.loading.proofs.Table.{arrow_marked, arrow_plain}
use Rattle.loading.proofs.ends.arrow_row.Goals as goal

pub returns-then-left-ge-MONO : goal.returns-then-left-ge-MONO
returns-then-left-ge-MONO c = search arrow_marked

pub returns : goal.returns
returns c = search arrow_plain
