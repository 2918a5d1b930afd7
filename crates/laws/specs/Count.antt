-- "Counting work": the count of a run, which no budget changes; when it passes a budget; and which calls run their question at all.
use Rattle.std.specs.Prelude.{◌≡◌, List, ℕ, ◌-◌, ◌≤◌, ◌<◌, length, leb}
use Rattle.std.proofs.Math.Option.{Option, none, some}
use Rattle.definition.specs.Syntax.{pick}
use Rattle.definition.specs.Question.{Question, got, read_question}
use Rattle.definition.specs.Run.{Out, done, fail, stop, M}
use Rattle.definition.specs.Reply.{answer}
use Rattle.laws.specs.OtherBudgets.{Allowed}

-- ---- "Units is 0 on 1 to 5, the budget on 6, else the total charged." "Units equal this count in the definition."

-- what a run that began with the budget l was charged in all; none where it ran out
unfoldable pub charged : {A : Type 0} → ℕ → Out A → Option ℕ
charged l (done a r n) = some (l - r)
charged l (fail e r) = some (l - r)
charged l stop = none

-- what the budget l is charged by a run whose count is c: c where l is enough for it, else none
unfoldable pub up_to : ℕ → Option ℕ → Option ℕ
up_to l none = none
up_to l (some u) = pick (leb u l) (some u) none

-- c, a number or none, is the count of the run m with n fresh names taken: every budget that is enough for it is charged it, and every
-- other runs out
pub record Count {A : Type 0} (m : M A) (n : ℕ) (c : Option ℕ) : Type 0 where
  pub at : (l : ℕ) → charged l (m l n) ≡ up_to l c

-- a question's count as far as `most`: none where it is larger, or where there is none
unfoldable pub count_to : ℕ → Question → Option ℕ
count_to most q = charged most (answer q most 0)

-- ---- "6 Budget: the next charge would pass the budget"

-- the count passes the budget l: it is larger, or there is none
abbrev pub Passes : Option ℕ → ℕ → Type 0
Passes none l = Unit {0}
Passes (some u) l = l < u

-- ---- "1, 2, 3 are tried in that order; then one reading from left to right, and its first fault decides between 4 and 5."

-- a call that none of 1 to 5 refuses, and the question that its words are
pub record IsRun (budget work : ℕ) (ws : List ℕ) (q : Question) : Type 0 where
  pub allowed : Allowed budget work
  pub few : length ws ≤ 2048
  pub place : ℕ
  pub rest : List ℕ
  pub read : read_question ws ≡ got q place rest
