-- Entering a judgement and leaving it.
use Rattle.std.specs.Prelude.{◌≡◌, List, ℕ, ◌+◌, ◌-◌, ◌≤◌, ◌<◌, ◌^◌, length, Result, Ok, Err}
use Rattle.layout.specs.Sizes.{CAP}
use Rattle.layout.specs.States.{paid, lowered}
use Rattle.layout.specs.Words.{Keep}
use Rattle.layout.specs.declared.Span.{Span}
use Rattle.layout.specs.declared.State.{State}
use Rattle.judging.specs.declared.Ask.{Ask}
use Rattle.judging.specs.declared.Answer.{Answer}
use Rattle.judging.specs.declared.Bad.{Bad}
use Rattle.layout.specs.declared.Spent as layout
use Rattle.judging.specs.declared.Stop.TheVariants.{Fail, Spent}
use Rattle.judging.specs.Ending.{Step}
use Rattle.judging.specs.Asking.{Small}
use Rattle.judging.specs.Nodes.{NodeWords}

-- where entering can be paid, a node can be reserved
pub record Entering (s : State) (g : Span) : Type 0 where
  pub node : g.n < s.left → 12 ≤ s.low
  pub entries : g.n < CAP

-- the state in which the rule starts
abbrev pub inner : State → Span → State
inner s g = lowered (paid s (g.n + 1)) 12

pub data EnteredBy (s : State) (g : Span) : Result State layout.Spent → Type 0 where
  entered : g.n < s.left → EnteredBy s g (Ok (inner s g))
  unpaid : {x : layout.Spent} → s.left ≤ g.n → EnteredBy s g (Err x)

-- ## Leaving: s is the state in which the judgement was asked, and its node stands in the 12 words below s .low

-- a rule's answer becomes that of its judgement
pub record ConcludePre (w : List ℕ) (s : State) (g : Span) (k : Ask) (a : Answer) : Type 0 where
  pub node : 12 ≤ s.low
  pub within : s.low ≤ length w
  pub small : Small k
  pub at : g.at < 2 ^ 32
  pub n : g.n < 2 ^ 32
  pub out : a.g.at < 2 ^ 32
  pub n₂ : a.g.n < 2 ^ 32
  pub res : a.ty < 2 ^ 32
  pub rule : a.rule < 38
  pub kids : a.kids < 5
  pub less : a.st.left ≤ s.left

abbrev pub leaving : State → Answer → Answer
leaving s a =
    let p = paid a.st a.g.n in
    record { st = p; g = a.g; ty = a.ty; rule = a.rule; kids = a.kids; charge = s.left - p.left }

pub data Concludes (w w' : List ℕ) (s : State) (g : Span) (k : Ask) (a : Answer) : Step → Type 0 where
  unpaid_out : a.st.left < a.g.n → w' ≡ w → Concludes w w' s g k a (Err Spent)
  wrote : a.g.n ≤ a.st.left → Keep (s.low - 12) s.low w w' → NodeWords w' (s.low - 12) a.rule a.kids g k a.g a.ty
      → Concludes w w' s g k a (Ok (leaving s a))

-- z is what the rule came to
pub record LeavePre (w : List ℕ) (s : State) (g : Span) (k : Ask) (z : Step) : Type 0 where
  pub answers : {a : Answer} → z ≡ Ok a → ConcludePre w s g k a
  pub fails : {b : Bad} → z ≡ Err (Fail b) → b.st.left ≤ s.left

abbrev pub failing : State → Bad → Bad
failing s b = record { st = b.st; code = b.code; name = b.name; shown = b.shown; charge = s.left - b.st.left }

pub data Left (w w' : List ℕ) (s : State) (g : Span) (k : Ask) : Step → Step → Type 0 where
  concluded : {a : Answer} {y : Step} → Concludes w w' s g k a y → Left w w' s g k (Ok a) y
  failed_on : {b : Bad} → w' ≡ w → Left w w' s g k (Err (Fail b)) (Err (Fail (failing s b)))
  ran_out_on : w' ≡ w → Left w w' s g k (Err Spent) (Err Spent)
