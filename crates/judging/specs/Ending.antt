-- What a judgement and a rule promise: what comes back is what the definition says, at the same budget and fresh names.
use Rattle.std.specs.Prelude.{◌≡◌, List, ℕ, ◌+◌, ◌*◌, ◌≤◌, ◌<◌, length, Result as Outcome, Ok, Err}
use Rattle.std.proofs.Math.Option.{Option, none, some}
use Rattle.definition.specs.Syntax.{Ty, Ctx, Judgement, Rule, rule_number, Tree, Trees, leaf, ◌&◌, children, Shown, no_type, one_type, two_types, TypeError}
use Rattle.definition.specs.Run.{Out, done, fail, stop}
use Rattle.definition.specs.Rules.{Fired, Result, rule, judge}
use Rattle.definition.specs.Reply.{error_code, error_at}
use Rattle.laws.specs.Count.{charged}
use Rattle.layout.specs.Words.{Keep}
use Rattle.layout.specs.Denotes.{Den, Run, Base}
use Rattle.layout.specs.Room.{Room}
use Rattle.layout.specs.declared.Span.{Span}
use Rattle.layout.specs.declared.State.{State}
use Rattle.judging.specs.declared.Ask.{Ask}
use Rattle.judging.specs.declared.Answer.{Answer}
use Rattle.judging.specs.declared.Bad.{Bad}
use Rattle.judging.specs.declared.Here.{Here}
use Rattle.judging.specs.declared.Shown as program
use Rattle.judging.specs.declared.Shown.TheVariants.{NoType, OneType, TwoTypes}
use Rattle.judging.specs.declared.Stop.{Stop}
use Rattle.judging.specs.declared.Stop.TheVariants.{Fail, Spent}
use Rattle.judging.specs.Asking.{here, Asks}
use Rattle.judging.specs.Nodes.{NodesAt}

-- from the state s a run came to an answer: result C, context Δ, trees ts, l of the budget and n fresh names
pub record Landed (q w' : List ℕ) (s : State) (a : Answer) (k : ℕ) (C : Ty) (Δ : Ctx) (ts : Trees) (l n : ℕ) : Type 0 where
  pub run : Run q w' a.st.top a.g.at a.g.n Δ
  pub den : Den q w' a.st.top a.ty C
  pub nodes : NodesAt q w' a.st.top a.st.low s.low ts
  pub left : a.st.left ≡ l
  pub fresh : a.st.fresh ≡ n
  pub up : s.top ≤ a.st.top
  pub down : a.st.low ≤ s.low
  pub less : a.st.left ≤ s.left
  pub room : Room q w' a.st k

-- the types that a type error shows
pub data ShownAt (q w : List ℕ) (t : ℕ) : program.Shown → Shown → Type 0 where
  shown_none : ShownAt q w t NoType no_type
  shown_one : {l : ℕ} {A : Ty} → Den q w t l A → ShownAt q w t (OneType l) (one_type A)
  shown_two : {l r : ℕ} {A B : Ty} → Den q w t l A → Den q w t r B → ShownAt q w t (TwoTypes l r) (two_types A B)

pub record Failed (q w' : List ℕ) (b : Bad) (e : TypeError) (l : ℕ) : Type 0 where
  pub base : Base q w' b.st.top
  pub within : b.st.top ≤ length w'
  pub code : b.code ≡ error_code e.error
  pub name : b.name ≡ error_at e.about
  pub shown : ShownAt q w' b.st.top b.shown e.shown
  pub left : b.st.left ≡ l

-- what a rule or a judgement comes to
abbrev pub Step : Type 0
Step = Outcome Answer Stop

-- how a judgement ends, and a rule
pub data EndsJ (q w' : List ℕ) (s : State) : Step → Out Result → Type 0 where
  landed : {a : Answer} {C : Ty} {Δ : Ctx} {t : Tree} {l n : ℕ} → Landed q w' s a (4 * a.g.n + 4) C Δ (t & leaf) l n
      → EndsJ q w' s (Ok a) (done (C, Δ, t) l n)
  failed : {b : Bad} {e : TypeError} {l : ℕ} → Failed q w' b e l → EndsJ q w' s (Err (Fail b)) (fail e l)
  ran_out : EndsJ q w' s (Err Spent) stop

pub data EndsR (q w' : List ℕ) (s : State) : Step → Out Fired → Type 0 where
  fired : {a : Answer} {C : Ty} {Δ : Ctx} {ts : Trees} {r : Rule} {l n : ℕ} → a.rule ≡ rule_number r → a.kids ≡ children ts
      → children ts < 5 → Landed q w' s a 4 C Δ ts l n → EndsR q w' s (Ok a) (done (r, C, Δ, ts) l n)
  refused : {b : Bad} {e : TypeError} {l : ℕ} → Failed q w' b e l → EndsR q w' s (Err (Fail b)) (fail e l)
  out : EndsR q w' s (Err Spent) stop

pub record RunsJ (q w w' : List ℕ) (s : State) (z : Step) (R : Out Result) : Type 0 where
  pub keep : Keep s.top s.low w w'
  pub ends : EndsJ q w' s z R

pub record RunsR (q w w' : List ℕ) (s : State) (z : Step) (R : Out Fired) : Type 0 where
  pub keep : Keep s.top s.low w w'
  pub ends : EndsR q w' s z R

-- ---- "Each judgement returns its charge, proved equal to the definition's count"

-- what is returned as the charge; none where the budget did not suffice
abbrev pub charge_of : Step → Option ℕ
charge_of (Ok a) = some a.charge
charge_of (Err (Fail b)) = some b.charge
charge_of (Err Spent) = none

-- what a judgement ensures, and a rule
pub record Judged (h : Here) (q w w' : List ℕ) (s : State) (g : Span) (a : Ask) (z : Step) : Type 0 where
  pub run : (j : Judgement) → Asks q w s.top g a j → RunsJ q w w' s z (judge (here h) j s.left s.fresh)
  pub charge : (j : Judgement) → Asks q w s.top g a j → charge_of z ≡ charged s.left (judge (here h) j s.left s.fresh)

pub record Fires (h : Here) (q w w' : List ℕ) (s : State) (g : Span) (a : Ask) (z : Step) : Type 0 where
  pub run : (j : Judgement) → Asks q w s.top g a j → RunsR q w w' s z (rule (here h) (judge (here h)) j s.left s.fresh)
