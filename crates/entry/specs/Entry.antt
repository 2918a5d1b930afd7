-- The entry's promise: the definition's call, in the four numbers and in both slices.
use Rattle.std.specs.Prelude.{◌≡◌, List, ◌++◌, ℕ, ◌≤◌, ◌<◌, length, drop, replicate, Result as Outcome, Ok, Err}
use Rattle.definition.specs.Reply as definition
use Rattle.definition.specs.Reply.{work_words, answer, out_reply}
use Rattle.definition.specs.Question as question
use Rattle.definition.specs.Memory.{call, report_after}
use Rattle.definition.specs.Syntax.{Ctx}
use Rattle.definition.specs.Run.{Out, and_then, ◌>>=◌, give}
use Rattle.definition.specs.Types.{apply}
use Rattle.definition.specs.Rules.{Result, outside}
use Rattle.layout.specs.Sizes.{CAP}
use Rattle.layout.specs.declared.State.{State}
use Rattle.judging.specs.Ending.{Step, EndsJ, charge_of}
use Rattle.laws.specs.Count.{charged}
use Rattle.report.specs.declared.NoRoom.{NoRoom}
use Rattle.layout.specs.Denotes.{Run}
use Rattle.contexts.specs.declared.Opened.{Opened}
use Rattle.judging.specs.Asking.{here, Ready}
use Rattle.layout.specs.declared.Span.{Span}
use Rattle.judging.specs.declared.Here.{Here}
use Rattle.reading.specs.Questions.{ContextAt, ModeIs, Accepted}
use Rattle.reading.specs.declared.Question.{Question}
use Rattle.reading.specs.declared.Mode as program
use Rattle.replies.specs.declared.Reply.{Reply}
use Rattle.replies.specs.Numbers.{Numbers}

-- question q, work w and report slice s before, w' and s' after
pub record Replied (budget : ℕ) (q w w' s s' : List ℕ) (r : Reply) : Type 0 where
  pub numbers : Numbers (call budget q w s).answered r
  pub report : s' ≡ (call budget q w s).report_slice
  pub work : w' ≡ (call budget q w s).work_slice

-- ## Inside: a question that was read, with work of the exact length

-- the reply R was given
pub record Gives (R : definition.Reply) (s s' : List ℕ) (r : Reply) : Type 0 where
  pub numbers : Numbers R r
  pub report : s' ≡ report_after R s

pub record RunPre (q w : List ℕ) (budget : ℕ) (a : Question) : Type 0 where
  pub long : length w ≡ work_words budget
  pub low : 1 ≤ budget
  pub high : budget ≤ 8192
  pub few : length q ≤ 2048
  pub read : Accepted q a

-- what a question's run comes to
abbrev pub outcome : ℕ → ℕ → question.Question → definition.Reply
outcome budget room Q = out_reply Q.kind budget room (answer Q budget 0)

pub record Runs (q : List ℕ) (budget : ℕ) (a : Question) (s s' : List ℕ) (r : Reply) : Type 0 where
  pub gives : (acc : Accepted q a) → Gives (outcome budget (length s) acc.asked) s s' r

-- the same in the first words of a longer slice, which end as 0
pub record ClearedPre (q w : List ℕ) (budget : ℕ) (a : Question) : Type 0 where
  pub enough : work_words budget ≤ length w
  pub low : 1 ≤ budget
  pub high : budget ≤ 8192
  pub few : length q ≤ 2048
  pub read : Accepted q a

pub record Cleared (q w w' : List ℕ) (budget : ℕ) (a : Question) (s s' : List ℕ) (r : Reply) : Type 0 where
  pub runs : Runs q budget a s s' r
  pub work : w' ≡ replicate (work_words budget) 0 ++ drop (work_words budget) w

-- b is 0 where all words are, and nowhere else
pub record ZeroBits (w : List ℕ) (b : ℕ) : Type 0 where
  pub all : b ≡ 0 → w ≡ replicate (length w) 0
  pub only : w ≡ replicate (length w) 0 → b ≡ 0

-- ## The steps of a run

pub record OpenPre (q w : List ℕ) (budget : ℕ) (a : Question) : Type 0 where
  pub run : RunPre q w budget a
  pub paid : a.entries < budget

-- the table of ends is laid and the context loaded
pub record Prepares (q w' : List ℕ) (budget : ℕ) (a : Question) (o : Opened) : Type 0 where
  pub ready : Ready q w' o.st o.g
  pub low : o.st.low ≡ work_words budget
  pub left : o.st.left ≡ budget
  pub fresh : o.st.fresh ≡ 0
  pub count : o.g.n ≡ a.entries
  pub run : (Γ : Ctx) → ContextAt q a Γ → Run q w' o.st.top o.g.at o.g.n Γ

-- ## Kind 7

-- the type resolved by the final context
abbrev pub resolved : Out Result → Out Result
resolved R = and_then R (λ r. do A ← apply r.1 r.0; give (A, r.1, r.2))

pub record ResolvePre (q w : List ℕ) (s : State) (z : Step) : Type 0 where
  pub R : Out Result
  pub ends : EndsJ q w s z R

pub record Resolves (q w w' : List ℕ) (s : State) (z z' : Step) : Type 0 where
  pub ends : (R : Out Result) → EndsJ q w s z R → EndsJ q w' s z' (resolved R)
  pub charge : (R : Out Result) → EndsJ q w s z R → charge_of z ≡ charged s.left R → charge_of z' ≡ charged s.left (resolved R)

-- ## From what a run came to, to its reply

-- the four numbers, by what became of the report
abbrev pub told_of : ℕ → ℕ → ℕ → Outcome ℕ NoRoom → Reply
told_of c p u (Ok n) = record { code = c; at = p; len = n; units = u }
told_of c p u (Err r) = record { code = 7; at = 0; len = r.0; units = u }

abbrev pub length_of : Outcome ℕ NoRoom → ℕ
length_of (Ok n) = n
length_of (Err r) = r.0

-- a run from the state s came to z, which is R in the definition, and was charged what R was
pub record FinishPre (q w : List ℕ) (s : State) (z : Step) : Type 0 where
  pub low : s.low ≤ length w
  pub cap : length w ≤ CAP
  pub budget : s.left ≤ 8192
  pub R : Out Result
  pub ends : EndsJ q w s z R
  pub charge : charge_of z ≡ charged s.left R

pub record Finishes (q w : List ℕ) (kind : ℕ) (s : State) (z : Step) (sl sl' : List ℕ) (r : Reply) : Type 0 where
  pub gives : (R : Out Result) → EndsJ q w s z R → Gives (out_reply kind s.left (length sl) R) sl sl' r

-- ## The judgement that the question asks

pub record AskPre (q w : List ℕ) (a : Question) (st : State) (g : Span) : Type 0 where
  pub accepted : Accepted q a
  pub ready : Ready q w st g
  pub run : (Γ : Ctx) → ContextAt q a Γ → Run q w st.top g.at g.n Γ

pub record Answers (q w w' : List ℕ) (a : Question) (st : State) (z : Step) : Type 0 where
  pub keep : length w ≡ length w'
  pub ends : (acc : Accepted q a) → EndsJ q w' st z (answer acc.asked st.left st.fresh)
  pub charge : (acc : Accepted q a) → charge_of z ≡ charged st.left (answer acc.asked st.left st.fresh)

pub record OutsideOf (m : program.Mode) (h : Here) : Type 0 where
  pub is : {μ : question.Mode} → ModeIs m μ → here h ≡ outside μ
