-- `by_unknown` meets its contract.
use Rattle.subtyping.proofs.Arms.{unknown_left, unknown_right, unknown_neither}
use Rattle.subtyping.proofs.by_unknown.Goals as goal

pub returns-then-absent : goal.returns-then-absent
returns-then-absent c = search unknown_left

pub returns-then-absent-2 : goal.returns-then-absent-2
returns-then-absent-2 c = search unknown_right

pub returns : goal.returns
returns c = search unknown_neither
