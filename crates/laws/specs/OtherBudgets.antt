-- Order 5, the same question at another budget: "a question answered at one budget, with any code except 1, 2 and 6, gets the same reply at
-- every larger one that document 01 allows, given the same report slice and enough work".
use Rattle.std.specs.Prelude.{◌≡◌, ◌≢◌, ℕ, ◌≤◌, leb}
use Rattle.definition.specs.Syntax.{pick}
use Rattle.definition.specs.Question.{Question}
use Rattle.definition.specs.Reply.{Reply, refusal, answer, out_reply, work_words}

-- a budget "that document 01 allows", and "enough work" for it: neither 1 nor 2 is given
pub record Allowed (budget work : ℕ) : Type 0 where
  pub low : 1 ≤ budget
  pub high : budget ≤ 8192
  pub enough : work_words budget ≤ work

-- "any code except 1, 2 and 6"
pub record Settled (code : ℕ) : Type 0 where
  pub not_1 : code ≢ 1
  pub not_2 : code ≢ 2
  pub not_6 : code ≢ 6

-- what a question that gets R gets at a budget: R, where the budget is no less than R's units, else 6
unfoldable pub at_budget : ℕ → Reply → Reply
at_budget budget R = pick (leb R.units budget) R (refusal 6 0 budget)

-- ---- Order 4: "the report that the question gets with enough budget (past 8,192 if need be) and room"

-- what a question that is run gets, with any budget at all
unfoldable pub reply_with : ℕ → ℕ → Question → Reply
reply_with budget room q = out_reply q.kind budget room (answer q budget 0)

-- R is what the question gets, its report or a type error's, with a budget that is enough and a report slice that has room
pub record WithEnough (q : Question) (R : Reply) : Type 0 where
  pub budget : ℕ
  pub room : ℕ
  pub is : R ≡ reply_with budget room q
  pub not_6 : R.code ≢ 6
  pub not_7 : R.code ≢ 7
