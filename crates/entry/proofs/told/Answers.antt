-- `told` meets its contract.
use native.Mathlib.Omega.{arith}
use Rattle.entry.proofs.told.Goals as goal

pub overflow_cast-result : goal.overflow_cast-result
overflow_cast-result c = let h = rw c.in-Ok.is at c.requires.1 in omega arith

pub overflow_cast-result-in-Err : goal.overflow_cast-result-in-Err
overflow_cast-result-in-Err c = let h = rw c.in-Err.is at c.requires.1 in omega arith

pub returns-in-Ok : goal.returns-in-Ok
returns-in-Ok c = rw c.in-Ok.is

pub returns-in-Err : goal.returns-in-Err
returns-in-Err c = rw (c.in-Err.is, c.number.ensures)
