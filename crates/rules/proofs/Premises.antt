-- The judgements that a rule without a result type asks: how one is asked, how it ends the rule, and how the last one does.
use mathlib.Core.Path.{◌≡◌, ◌∙◌}
use mathlib.Core.Bool.{false}
use mathlib.Core.List.{List}
use Prim.Native.Nat.{ℕ, ◌+◌, ◌*◌, ◌<◌}
use native.Mathlib.Omega.{arith}
use Rattle.std.specs.Prelude.{Ok}
use Rattle.definition.specs.Syntax.{TyVar, Ty, int, etvar, Ctx, Side, Judgement, Rule, rule_number, Tree, Trees, leaf, ◌&◌, children}
use Rattle.definition.specs.Run.{Out, done, stop, M, and_then, give}
use Rattle.definition.specs.Contexts.{Key, right_of}
use Rattle.definition.specs.Rules.{Fired, Result, rule, judge}
use Rattle.layout.specs.Sizes.{INT}
use Rattle.layout.specs.Denotes.{Den, Run}
use Rattle.layout.specs.Room.{Room}
use Rattle.layout.specs.declared.Span.{Span}
use Rattle.layout.specs.declared.State.{State}
use Rattle.layout.proofs.Denotes.{int_den}
use Rattle.contexts.specs.Build.{Space}
use Rattle.judging.specs.Asking.{here, Asks, inst_ask, JudgePre}
use Rattle.judging.specs.Ending.{Step, RunsR, Judged, Fires}
use Rattle.judging.specs.declared.Answer.{Answer}
use Rattle.judging.specs.declared.Ask.{Ask}
use Rattle.judging.specs.declared.Here.{Here}
use Rattle.judging.proofs.Asking.{small_inst, asks_inst}
use Rattle.judging.proofs.Nodes.{◌+++◌}
use Rattle.judging.proofs.Steps.{NotDone, Came}
use Rattle.judging.proofs.Chain.{room_ready, Sofar, ended, gave, on, fires}
use Rattle.rules.specs.Going.{kept, PlainOut, KeepOut}
use Rattle.rules.proofs.Standing.{ref_small, room_space}
use Rattle.rules.proofs.Ways.{Way, finish}

pub inst_pre : {q w : List ℕ} {s : State} {k : ℕ} {g : Span} (sd : Side) {a b : ℕ} {Γ : Ctx} {x : TyVar} {T : Ty} → Room q w s k
    → Run q w s.top g.at g.n Γ → Den q w s.top a (etvar x) → Den q w s.top b T → JudgePre q w s g (inst_ask sd a b)
inst_pre {g = g} sd room run d e = record {
  ready = room_ready g room;
  small = small_inst sd (ref_small room d) (ref_small room e);
  j = _;
  asks = asks_inst sd run d e;
}

pub then_done : {A B : Type 0} {a : A} {R : Out A} (k : A → M B) {l n : ℕ} → R ≡ done a l n → and_then R k ≡ k a l n
unfolding and_then
then_done k e = rw e

pub then_stop : {A B : Type 0} {R : Out A} (k : A → M B) → R ≡ stop → and_then R k ≡ stop
unfolding and_then
then_stop k e = rw e

-- ## A judgement did not end well, and so does the rule

-- what the rule for j comes to is the judgement i, and then what is next
pub record Inner (m : Here) (q w w₁ : List ℕ) (s s₁ : State) (g₁ : Span) (a₁ : Ask) (j : Judgement) : Type 0 where
  pub ts : Trees
  pub so : Sofar q w w₁ s s₁ ts
  pub i : Judgement
  pub asks : Asks q w₁ s₁.top g₁ a₁ i
  pub next : Result → M Fired
  pub says : rule (here m) (judge (here m)) j s.left s.fresh ≡ and_then (judge (here m) i s₁.left s₁.fresh) next

pub else_fires : {m : Here} {q w w₁ w₂ : List ℕ} {s s₁ : State} {g g₁ : Span} {a a₁ : Ask} {z : Step}
    → ((j : Judgement) → Asks q w s.top g a j → Inner m q w w₁ s s₁ g₁ a₁ j) → Judged m q w₁ w₂ s₁ g₁ a₁ z → NotDone z
    → Fires m q w w₂ s g a z
else_fires f call nd = record { run = λ j k. let x = f j k in rw x.says (ended x.so call x.asks nd x.next) }

-- ## A rule that asks none

pub ends : {q w w₁ : List ℕ} {s : State} {ts : Trees} {n k : ℕ} (s₁ : State) (g₁ : Span) (r : Rule) {Δ : Ctx} → n ≡ rule_number r → k ≡ children ts
    → k < 5 → Sofar q w w₁ s s₁ ts → Room q w₁ s₁ 4 → Run q w₁ s₁.top g₁.at g₁.n Δ
    → (R : Out Fired) → R ≡ done (r, int, Δ, ts) s₁.left s₁.fresh
    → RunsR q w w₁ s (Ok (record { st = s₁; g = g₁; ty = INT; rule = n; kids = k; charge = 0 })) R
ends s₁ g₁ r en ek few so room run R e = rw (en, ek) (fires s₁ g₁ INT r so room (omega arith) run (int_den room.base) R e)

-- ## The judgement i came back, and is the rule's last

module _ {m : Here} {q w w₁ w₂ : List ℕ} {s s₁ : State} {ts : Trees} {g₁ : Span} {a₁ : Ask} {z : Step} (so : Sofar q w w₁ s s₁ ts)
    (call : Judged m q w₁ w₂ s₁ g₁ a₁ z) {i : Judgement} (asks : Asks q w₁ s₁.top g₁ a₁ i) {r : Answer} (d : z ≡ Ok r) where
  came : Came q w₂ s₁ r (judge (here m) i s₁.left s₁.fresh)
  came = gave so call asks d

  -- room to keep some of its output
  pub came_space : Space w₂ r.st r.g 0
  came_space = let x = came.land in room_space x.room r.g 0 x.run (omega arith)

  -- then to be done: what gives it, by f
  abbrev way : Rule → (Ctx → Ctx) → Out Fired → Type 0
  way R f O = Way q w w₂ s r.st (ts +++ (came.t & leaf)) (4 * r.g.n + 4) O (give (R, int, f came.Δ, ts +++ (came.t & leaf)))

  then_give : (R : Rule) (f : Ctx → Ctx) (O : Out Fired) → O ≡ and_then (judge (here m) i s₁.left s₁.fresh) (λ u. give (R, int, f u.1, ts +++ (u.2 & leaf)))
      → way R f O
  then_give R f O e = record { so = on so call asks came; room = came.land.room; is = e ∙ then_done _ came.is }

  -- the rule's output is its output
  pub through_ends : {n k : ℕ} {y : Step} (R : Rule) → n ≡ rule_number R → ((t : Tree) → k ≡ children (ts +++ (t & leaf))) → k < 5
      → PlainOut r.st r.g INT n k y
      → (O : Out Fired) → O ≡ and_then (judge (here m) i s₁.left s₁.fresh) (λ u. give (R, int, u.1, ts +++ (u.2 & leaf)))
      → RunsR q w w₂ s y O
  through_ends R en ek few a O e =
      let x = came.land in
      finish R (a.finished q w₂) x.run (int_den x.room.base) (then_give R (λ Γ. Γ) O e) (omega arith) en (ek came.t) few

  -- it is what stands right of a key
  pub right_ends : {n k : ℕ} {w₃ : List ℕ} {y : Step} (R : Rule) (K : Key) → n ≡ rule_number R → ((t : Tree) → k ≡ children (ts +++ (t & leaf))) → k < 5
      → KeepOut false w₂ w₃ r K INT n k y
      → (O : Out Fired) → O ≡ and_then (judge (here m) i s₁.left s₁.fresh) (λ u. give (R, int, right_of K u.1, ts +++ (u.2 & leaf)))
      → RunsR q w w₃ s y O
  unfolding kept
  right_ends R K en ek few a O e =
      let x = came.land in
      finish R (a.finished q) x.run (int_den x.room.base) (then_give R (right_of K) O e) (omega arith) en (ek came.t) few
