-- `answer_words` meets its contract: BadLength, or the entry's reply.
use Rattle.sized.proofs.Answering.{refused, too_many, not_whole, asked}
use Rattle.sized.proofs.answer_words.Goals as goal
use Rattle.sized.proofs.answer_words.Goals.{then-n-gt-QUESTION_MOST-via-then-n-gt-QUESTION_MOST, then-n-gt-QUESTION_MOST-via-else-n-gt-QUESTION_MOST+then-n-question}

pub returns-then-n-gt-QUESTION_MOST : goal.returns-then-n-gt-QUESTION_MOST
returns-then-n-gt-QUESTION_MOST c = rw (c.refusal.ensures, c.number.ensures) (refused (elim c.then-n-gt-QUESTION_MOST.branch [
  | then-n-gt-QUESTION_MOST-via-then-n-gt-QUESTION_MOST w ↦ too_many _ _ w.if-n-gt-QUESTION_MOST.true
  | then-n-gt-QUESTION_MOST-via-else-n-gt-QUESTION_MOST+then-n-question w ↦ not_whole _ _ w.if-n-question.true
]))

pub returns : goal.returns
returns c = search asked
