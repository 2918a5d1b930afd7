-- `check` meets its contract: each refusal by its law, and a run's reply.
use native.Mathlib.Omega.{arith}
use Rattle.entry.proofs.Refusing.{refused, no_budget, large_budget, short_work, no_words, too_long, read, faulted}
use Rattle.entry.proofs.Answering.{replied}
use Rattle.entry.proofs.check.Goals as goal

pub returns-then-budget-lt1 : goal.returns-then-budget-lt1
returns-then-budget-lt1 c = rw (c.refusal.ensures, c.number.ensures) (refused _ _ _ _ 1 0 (no_budget _ _ _ _ c.if-budget-lt1.true) (omega arith) (omega arith))

pub returns-then-budget-gt-BUDGET_MOST : goal.returns-then-budget-gt-BUDGET_MOST
returns-then-budget-gt-BUDGET_MOST c =
    rw (c.refusal-then-budget-gt-BUDGET_MOST.ensures, c.number-then-budget-gt-BUDGET_MOST.ensures) (refused _ _ _ _ 1 0 (large_budget _ _ _ _ c.if-budget-gt-BUDGET_MOST.true) (omega
    arith) (omega arith))

pub returns-then-work-need : goal.returns-then-work-need
returns-then-work-need c =
    rw (c.refusal-then-work-need.ensures, c.number-then-work-need.ensures) (refused _ _ _ _ 2 0 (short_work _ _ _ _ c.if-budget-lt1.false c.if-budget-gt-BUDGET_MOST.false (rw
    c.work_words-need.ensures at c.if-work-need.true)) (omega arith) (omega arith))

pub returns-then-question-lt1 : goal.returns-then-question-lt1
returns-then-question-lt1 c =
    rw (c.refusal-then-question-lt1.ensures, c.number-then-question-lt1.ensures) (refused _ _ _ _ 3 0 (no_words _ _ _ _ c.if-budget-lt1.false c.if-budget-gt-BUDGET_MOST.false (rw
    c.work_words-need.ensures at c.if-work-need.false) c.if-question-lt1.true) (omega arith) (omega arith))

pub returns-then-question-gt-QUESTION_MOST : goal.returns-then-question-gt-QUESTION_MOST
returns-then-question-gt-QUESTION_MOST c =
    rw (c.refusal-then-question-gt-QUESTION_MOST.ensures, c.number-then-question-gt-QUESTION_MOST.ensures) (refused _ _ _ _ 3 0 (too_long _ _ _ _ c.if-budget-lt1.false
    c.if-budget-gt-BUDGET_MOST.false (rw c.work_words-need.ensures at c.if-work-need.false) c.if-question-gt-QUESTION_MOST.true) (omega
    arith) (omega arith))

pub overflow_cast-fault : goal.overflow_cast-fault
overflow_cast-fault c = omega (arith, (rw c.in-Err.is at c.read_question.ensures).within.place, c.if-question-gt-QUESTION_MOST.false)

pub run_cleared-requires : goal.run_cleared-requires
run_cleared-requires c =
    record {
      enough = rw c.work_words-need.ensures at c.if-work-need.false;
      low = c.if-budget-lt1.false;
      high =
          c.if-budget-gt-BUDGET_MOST.false;
      few = c.if-question-gt-QUESTION_MOST.false;
      read = rw c.in-Ok.is at c.read_question.ensures;
    }

pub returns-in-Err : goal.returns-in-Err
returns-in-Err c =
    let f = (rw c.in-Err.is at c.read_question.ensures).within in rw (c.refusal-in-Err.ensures, c.code.ensures) (refused _ _ _ _ _ _ (faulted _ _ _ _
    c.if-budget-lt1.false c.if-budget-gt-BUDGET_MOST.false (rw c.work_words-need.ensures at c.if-work-need.false) c.if-question-lt1.false
    c.if-question-gt-QUESTION_MOST.false _ _ (rw c.in-Err.is at c.read_question.ensures).is) (omega (arith, f.least)) f.most)

pub returns-in-Ok : goal.returns-in-Ok
returns-in-Ok c =
    replied ((rw c.in-Ok.is at c.read_question.ensures)) (read _ _ _ _ c.if-budget-lt1.false c.if-budget-gt-BUDGET_MOST.false (rw
    c.work_words-need.ensures at c.if-work-need.false) c.if-question-lt1.false c.if-question-gt-QUESTION_MOST.false) c.run_cleared.ensures
