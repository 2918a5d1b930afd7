-- A whole judgement: from entering to leaving.
use mathlib.Core.Path.{◌≡◌, refl, sym, ◌∙◌}
use mathlib.Core.List.{List}
use mathlib.Core.Option.{some}
use Prim.Native.Nat.{ℕ, ◌≤◌, ◌<◌}
use native.Mathlib.Omega.{arith}
use Rattle.std.specs.Prelude.{Result, Ok, Err}
use Rattle.definition.specs.Syntax.{Ty, Ctx, Judgement, Tree}
use Rattle.definition.specs.Run.{done}
use Rattle.definition.specs.Rules.{judge}
use Rattle.laws.specs.Count.{Count}
use Rattle.laws.proofs.Count.{judgement_counted}
use Rattle.layout.specs.declared.Span.{Span}
use Rattle.layout.specs.declared.Spent as layout
use Rattle.layout.specs.declared.State.{State}
use Rattle.layout.proofs.Denotes.{mono_is_walk, entry_mono}
use Rattle.judging.specs.declared.Answer.{Answer}
use Rattle.judging.specs.declared.Ask.{Ask}
use Rattle.judging.specs.declared.Here.{Here}
use Rattle.judging.specs.declared.Stop.TheVariants.{Spent}
use Rattle.judging.specs.Asking.{here, Asks, JudgePre, RulePre}
use Rattle.judging.specs.Ending.{Step, charge_of, EndsJ, landed, Judged, Fires}
use Rattle.judging.specs.Marks.{Marked}
use Rattle.judging.specs.Leaving.{inner, EnteredBy, entered, unpaid, LeavePre, Left, concluded, failed_on, ran_out_on}
use Rattle.judging.proofs.Judgements.{judge_spent, rule_pre, conclude_pre, judge_done, fail_pre, judge_fail, judge_out}

-- what entering tells
record InnerState (s : State) (g : Span) (i : State) : Type 0 where
  is : i ≡ inner s g
  pos : g.n < s.left

inside : {s i : State} {g : Span} {e : Result State layout.Spent} → EnteredBy s g e → e ≡ Ok i → InnerState s g i
inside (entered p) d = record { is = cc; pos = p }
inside (unpaid p) d = let z : ◌≡◌ {A = ℕ} 0 1 = cc in absurd (omega arith)

outside : {s : State} {g : Span} {e : Result State layout.Spent} {x : layout.Spent} → EnteredBy s g e → e ≡ Err x → s.left ≤ g.n
outside (entered p) d = let z : ◌≡◌ {A = ℕ} 0 1 = cc in absurd (omega arith)
outside (unpaid p) d = p

pub whole_spent : {m : Here} {q w : List ℕ} {s : State} {g : Span} {a : Ask} {e : Result State layout.Spent} {x : layout.Spent} → EnteredBy s g e → e ≡ Err x → Judged m q w w s g a (Err Spent)
whole_spent h d = judge_spent (outside h d)

module _ {q w : List ℕ} {s : State} {g : Span} {a : Ask} (pre : JudgePre q w s g a) {e : Result State layout.Spent} {i : State} (h : EnteredBy s g e) (d : e ≡ Ok i) where
  pub whole_rule : RulePre q w i g a
  whole_rule = rw (inside h d).is (rule_pre pre (inside h d).pos)

  pub whole_less : i.left < s.left
  whole_less = let p = (inside h d).pos in rw (inside h d).is (omega arith)

  module _ {m : Here} {w₁ : List ℕ} {z : Step} (call : Fires m q w w₁ i g a z) where
    fires : Fires m q w w₁ (inner s g) g a z
    fires = rw (inside h d).is at call

    pub whole_leave : LeavePre w₁ s g a z
    whole_leave = let p = (inside h d).pos in record { answers = λ c. conclude_pre pre p fires c; fails = λ c. fail_pre pre p fires c }

    -- the judgement is the definition's
    pub whole_left : {w₂ : List ℕ} {y : Step} → Left w₁ w₂ s g a z y → Judged m q w w₂ s g a y
    whole_left {w₂} l = go {x = z} refl l
      where
        go : {x y : Step} → z ≡ x → Left w₁ w₂ s g a x y → Judged m q w w₂ s g a y
        go c (concluded u) = judge_done pre (inside h d).pos fires c u
        go c (failed_on e) = rw e (judge_fail pre (inside h d).pos fires c)
        go c (ran_out_on e) = rw e (judge_out pre (inside h d).pos fires c)

-- the stored monotype marks in what a judgement gives are the walk's
pub judged_marks : {m : Here} {q w w₁ : List ℕ} {s : State} {g : Span} {a : Ask} {b : Answer} {j : Judgement} {C : Ty} {Δ : Ctx} {t : Tree} {l n : ℕ}
    → Judged m q w w₁ s g a (Ok b) → Asks q w s.top g a j → judge (here m) j s.left s.fresh ≡ done (C, Δ, t) l n → Marked w₁ b C Δ
judged_marks {q = q} {w₁ = w₁} {s = s} {b = b} {j = j} call k eq = go (rw eq at (call.run j k).ends)
  where
    go : {C : Ty} {Δ : Ctx} {t : Tree} {l n : ℕ} → EndsJ q w₁ s (Ok b) (done (C, Δ, t) l n) → Marked w₁ b C Δ
    go (landed x) = let y = x.room.base in record { type = mono_is_walk y x.den; entry = λ L e R d. entry_mono L e R y (rw d at x.run.ctx) }

-- what a judgement returns as its charge is its count in the definition, which no budget changes
pub charge_is_count : {m : Here} {q w w₁ : List ℕ} {s : State} {g : Span} {a : Ask} {z : Step} → Judged m q w w₁ s g a z
    → {j : Judgement} → Asks q w s.top g a j → {u : ℕ} → charge_of z ≡ some u → Count (judge (here m) j) s.fresh (some u)
charge_is_count {m} {s = s} call {j} k {u} e = judgement_counted (here m) j s.left s.fresh u (sym (call.charge j k) ∙ e)
