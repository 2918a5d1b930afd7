-- `read_unknown` meets its contract.
use Rattle.reading.proofs.Items.{passed}
use Rattle.reading.proofs.Sections.{unknown_end, unknown_is, unknown_none}
use Rattle.reading.proofs.read_unknown.Goals as goal

pub returns-in_err-read_word : goal.returns-in_err-read_word
returns-in_err-read_word c = rw (passed c.from_residual.ensures.1) (unknown_end c.requires c.in_err-read_word.ensures)

pub returns-then-branch-eq4 : goal.returns-then-branch-eq4
returns-then-branch-eq4 c = unknown_is c.requires c.in_ok-read_word.ensures c.if-branch-eq4.true c.read_name.ensures

pub returns : goal.returns
returns c = unknown_none c.requires c.in_ok-read_word.ensures c.if-branch-eq4.false c.bad_shape.ensures
