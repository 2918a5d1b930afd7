-- `read_name` meets its contract.
use Rattle.reading.proofs.Items.{passed, name_end, name_past, name_reserved}
use Rattle.reading.proofs.read_name.Goals as goal

pub returns-in_err-read_word : goal.returns-in_err-read_word
returns-in_err-read_word c = rw (passed c.from_residual.ensures.1) (name_end c.requires c.in_err-read_word.ensures)

pub returns-then-branch-lt-FIRST_FRESH : goal.returns-then-branch-lt-FIRST_FRESH
returns-then-branch-lt-FIRST_FRESH c = name_past c.requires c.in_ok-read_word.ensures c.if-branch-lt-FIRST_FRESH.true

pub returns : goal.returns
returns c = name_reserved c.requires c.in_ok-read_word.ensures c.if-branch-lt-FIRST_FRESH.false
