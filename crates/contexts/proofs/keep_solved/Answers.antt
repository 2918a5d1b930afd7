-- `keep_solved` meets its contract.
use native.Mathlib.Omega.{arith}
use Rattle.contexts.proofs.Kept.{kept_yes, kept_no}
use Rattle.contexts.proofs.keep_solved.Goals as goal

pub returns-then-kind-eq-SETVAR : goal.returns-then-kind-eq-SETVAR
returns-then-kind-eq-SETVAR c = search kept_yes

pub returns : goal.returns
returns c = kept_no c.word-kind.ensures.0 (λ e. omega arith)
