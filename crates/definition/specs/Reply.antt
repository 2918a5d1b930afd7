-- The reply: "Four numbers: code, at, length, units; and a report."
use Rattle.std.specs.Prelude.{ℕ, ◌+◌, ◌-◌, ◌*◌, min, Bool, ◌&&◌, ◌||◌, List, [], ◌++◌, length, leb, ltb, eqb}
use Rattle.definition.specs.Syntax.{pick, Error, UnboundVariable, ApplicationTypeError, TypeApplicationError, OccursCheck, SubtypingError, InstantiationError, ParameterMismatch, About, no_name, a_variable, a_type_name, Shown, no_type, one_type, two_types, no_section, section, ty_section, ctx_section, tree_words}
use Rattle.definition.specs.Question.{question_computes, Read, got, fault, Question, read_question}
use Rattle.definition.specs.Run.{Out, done, fail, stop, M, ◌>>=◌, give}
use Rattle.definition.specs.Types.{apply}
use Rattle.definition.specs.Rules.{rules_compute, Result, outside, judge}

pub record Reply : Type 0 where
  pub code : ℕ
  pub at : ℕ
  pub len : ℕ
  pub units : ℕ
  pub report : List ℕ

-- ---- "Length is 0 on 1 to 6." "Units is 0 on 1 to 5, the budget on 6, else the total charged." A refusal's code, at and units:

unfoldable pub refusal : ℕ → ℕ → ℕ → Reply
refusal c p u = record { code = c; at = p; len = 0; units = u; report = [] }

-- ---- | 7 NoRoom | the report is longer than the report slice, or than 4,294,967,295 words | 0 |
-- Length: "on 7 the needed length, or 4,294,967,295 if that is less." "7 may take the place of 0 or of 11 to 17"; the units stay (reading 17).

abbrev pub most : ℕ
most = 4_294_967_295

unfoldable pub reported : ℕ → ℕ → ℕ → ℕ → List ℕ → Reply
reported room c p u ws =
    pick (leb (length ws) room && leb (length ws) most)
    (record { code = c; at = p; len = length ws; units = u; report = ws })
    (record { code = 7; at = 0; len = min (length ws) most; units = u; report = [] })

-- ---- Type errors
-- | code | given when | at |
-- | 11 UnboundVariable | as 000 | name |
-- | 12 ApplicationTypeError, 13 TypeApplicationError | as 000 | 0 |
-- | 14 OccursCheck, 16 InstantiationError | as 000 | name |
-- | 15 SubtypingError | as 000 | 0 |
-- | 17 ParameterMismatch | strict mode only | 0 |
-- No question draws 16 (`never_16`, promises Main).

unfoldable pub error_code : Error → ℕ
error_code UnboundVariable = 11
error_code ApplicationTypeError = 12
error_code TypeApplicationError = 13
error_code OccursCheck = 14
error_code SubtypingError = 15
error_code InstantiationError = 16
error_code ParameterMismatch = 17

-- "11 to 17": from the first of them to this
abbrev pub last_error : ℕ
last_error = 17

unfoldable pub error_at : About → ℕ
error_at no_name = 0
error_at (a_variable x) = x.number
error_at (a_type_name a) = a.number

-- "A type error's report is two type sections: actual or ty in the first, or left and right; an unused one has count 0", both of 11 (reading 5)
unfoldable pub error_words : Shown → List ℕ
error_words no_type = no_section ++ no_section
error_words (one_type A) = ty_section A ++ no_section
error_words (two_types A B) = ty_section A ++ ty_section B

-- ---- "On 0 the report has three sections, each after its count: type (count 0 for kinds 2, 4, 5, 6), context, tree."

unfoldable pub gives_type : ℕ → Bool
gives_type k = eqb k 1 || eqb k 3 || eqb k 7

unfoldable pub result_words : ℕ → Result → List ℕ
result_words k (A, Δ, t) = pick (gives_type k) (ty_section A) no_section ++ (ctx_section Δ ++ section (tree_words t))

-- ---- "Kind 7's type is resolved by the final context": the type section's; the tree keeps what was inferred (reading 10).

unfoldable pub answer : Question → M Result
answer q =
    pick (eqb q.kind 7)
    (do (A, Δ, t) ← judge (outside q.manner) q.asks; A' ← apply Δ A; give (A', Δ, t))
    (judge (outside q.manner) q.asks)

-- "Units equal this count in the definition": what the run took of the budget, that of a failing judgement too (reading 11)
unfoldable pub out_reply : ℕ → ℕ → ℕ → Out Result → Reply
out_reply k budget room (done r l n) = reported room 0 0 (budget - l) (result_words k r)
out_reply k budget room (fail e l) = reported room (error_code e.error) (error_at e.about) (budget - l) (error_words e.shown)
out_reply k budget room stop = refusal 6 0 budget

unfoldable pub read_reply : ℕ → ℕ → Read Question → Reply
read_reply budget room (fault c p) = refusal c p 0
read_reply budget room (got q p ws) = out_reply q.kind budget room (answer q budget 0)

-- ---- "1, 2, 3 are tried in that order; then one reading from left to right, and its first fault decides between 4 and 5."

unfoldable pub work_words : ℕ → ℕ
work_words budget = 32 * budget + 4096

-- from the budget, the lengths of the work and the report slice, and the question's words, "At most 2,048 words":
-- | 1 BadBudget | budget 0 or above 8,192 | 0 |
-- | 2 ShortWork | work shorter than 32 x budget + 4,096 words | 0 |
-- | 3 BadLength | 0 words or more than 2,048 | 0 |
unfoldable pub reply : ℕ → ℕ → ℕ → List ℕ → Reply
reply budget work room ws =
    let r : Reply = read_reply budget room (read_question ws) in
    pick (eqb budget 0 || ltb 8192 budget) (refusal 1 0 0)
    (pick (ltb work (work_words budget)) (refusal 2 0 0)
    (pick (eqb (length ws) 0 || ltb 2048 (length ws)) (refusal 3 0 0) r))

-- `unfolding reply_computes` opens every definition above, and those they rest on
unfoldable pub reply_computes : Unit {0}
unfolding refusal reported error_code error_at error_words gives_type result_words answer out_reply read_reply work_words reply question_computes rules_compute
reply_computes = tt
