-- A judgement's steps in the definition: entering, its rule, leaving; and how a run that did not end well ends what asked it.
use mathlib.Core.Path.{◌≡◌, refl, ◌∙◌, ap}
use mathlib.Core.List.{List}
use Prim.Native.Nat.{ℕ, ◌+◌, ◌-◌, ◌*◌, ◌≤◌, ◌<◌}
use native.Mathlib.Omega.{arith}
use lib.ListN.{length}
use Rattle.std.specs.Prelude.{Result as Outcome, Ok, Err, IsErrAnd}
use Rattle.std.proofs.lemmas.Result.{err_from_is_err_and}
use Rattle.definition.specs.Syntax.{Ty, Ctx, Judgement, given, Rule, rule_number, Tree, node, Trees, leaf, ◌&◌, children, TypeError}
use Rattle.definition.specs.Run.{Out, done, fail, stop, M, and_then, ◌>>=◌, give, charge}
use Rattle.definition.specs.Rules.{Fired, Result, Here, rule, judge_step, judge}
use Rattle.laws.proofs.Steps.{charge_yes, charge_no, bind_done, bind_fail, bind_stop}
use Rattle.laws.proofs.Depth.{judge_eq}
use Rattle.layout.specs.declared.State.{State}
use Rattle.judging.specs.declared.Answer.{Answer}
use Rattle.judging.specs.declared.Bad.{Bad}
use Rattle.judging.specs.declared.Stop.{Stop}
use Rattle.judging.specs.declared.Stop.TheVariants.{Fail, Spent}
use Rattle.judging.specs.Ending.{Step, Landed, Failed, EndsJ, landed, failed, ran_out, EndsR, fired, refused, out}

-- ## An answer that is not Ok: what the code's `else` knows

abbrev pub NotDone : Step → Type 0
NotDone z = (a : Answer) → z ≡ Ok a → ⊥

pub no_done : (a : Answer) → NotDone (Ok a) → ⊥
no_done a h = h a refl

-- what `?` knows of it
pub not_done : {z : Step} {e : Stop} → z ≡ Err e → NotDone z
not_done e a d = let x : ◌≡◌ {A = ℕ} 0 1 = cc in absurd (omega arith)

-- what `?` hands on
pub stop_is : {Y : Type 0} {x : Stop} (r : Outcome Y Stop) → IsErrAnd r (λ e. e ≡ x) → r ≡ Err x
stop_is r h = let p = err_from_is_err_and r h in p.1 ∙ ap Err p.2

-- a judgement that does not end well ends its rule
pub else_ends : {q w' : List ℕ} {s s₁ : State} {z : Step} {R : Out Result} (k : Result → M Fired) → EndsJ q w' s₁ z R → NotDone z
    → EndsR q w' s z (and_then R k)
unfolding and_then
else_ends k (landed {a = a} x) h = absurd (no_done a h)
else_ends k (failed x) h = refused x
else_ends k ran_out h = out

-- ## Entering, the rule, leaving

module _ (μ : Here) where
  abbrev tail : Judgement → Fired → M Result
  tail j r = charge (length r.2) >>= λ v. give (r.1, r.2, node r.0 j r.1 r.2 r.3)

  pub step_none : (j : Judgement) (l n : ℕ) → l < 1 + length (given j) → judge μ j l n ≡ stop
  unfolding judge_step
  step_none j l n h = judge_eq μ j l n ∙ bind_stop (charge (1 + length (given j))) _ l n (charge_no _ l n h)

  step_in : (j : Judgement) (l n : ℕ) → 1 + length (given j) ≤ l
      → judge μ j l n ≡ (rule μ (judge μ) j >>= tail j) (l - (1 + length (given j))) n
  unfolding judge_step
  step_in j l n h = judge_eq μ j l n ∙ bind_done (charge (1 + length (given j))) _ l n (charge_yes _ l n h)

  module _ (j : Judgement) (l n l' : ℕ) (h : 1 + length (given j) ≤ l) (e : l' ≡ l - (1 + length (given j))) where
    here : judge μ j l n ≡ (rule μ (judge μ) j >>= tail j) l' n
    here = rw e (step_in j l n h)

    pub step_stop : rule μ (judge μ) j l' n ≡ stop → judge μ j l n ≡ stop
    step_stop r = here ∙ bind_stop (rule μ (judge μ) j) (tail j) l' n r

    pub step_fail : {x : TypeError} {k : ℕ} → rule μ (judge μ) j l' n ≡ fail x k → judge μ j l n ≡ fail x k
    step_fail r = here ∙ bind_fail (rule μ (judge μ) j) (tail j) l' n r

    module _ {r : Rule} {k m : ℕ} {C : Ty} (Δ : Ctx) {ts : Trees} (f : rule μ (judge μ) j l' n ≡ done (r, C, Δ, ts) k m) where
      pub step_unpaid : k < length Δ → judge μ j l n ≡ stop
      step_unpaid p = here ∙ bind_done (rule μ (judge μ) j) (tail j) l' n f ∙ bind_stop (charge (length Δ)) _ k m (charge_no _ k m p)

      pub step_paid : length Δ ≤ k → judge μ j l n ≡ done (C, Δ, node r j C Δ ts) (k - length Δ) m
      unfolding give
      step_paid p = here ∙ bind_done (rule μ (judge μ) j) (tail j) l' n f ∙ bind_done (charge (length Δ)) _ k m (charge_yes _ k m p)

-- ## What an answer that is Ok says

pub record Came (q w' : List ℕ) (s : State) (a : Answer) (R : Out Result) : Type 0 where
  pub C : Ty
  pub Δ : Ctx
  pub t : Tree
  pub is : R ≡ done (C, Δ, t) a.st.left a.st.fresh
  pub land : Landed q w' s a (4 * a.g.n + 4) C Δ (t & leaf) a.st.left a.st.fresh

pub came : {q w' : List ℕ} {s : State} {z : Step} {a : Answer} {R : Out Result} → EndsJ q w' s z R → z ≡ Ok a → Came q w' s a R
came {q} {w'} {s} {z} {a} {R} h e = go (rw e at h)
  where
    go : {S : Out Result} → EndsJ q w' s (Ok a) S → Came q w' s a S
    go (landed {C = C} {Δ = Δ} {t = t} {l = l} {n = n} x) =
        record { C = C; Δ = Δ; t = t; is = rw (x.left, x.fresh) refl; land = rw (← x.left, ← x.fresh) at x }

pub record FiredBy (q w' : List ℕ) (s : State) (a : Answer) (R : Out Fired) : Type 0 where
  pub C : Ty
  pub Δ : Ctx
  pub ts : Trees
  pub r : Rule
  pub l : ℕ
  pub n : ℕ
  pub is : R ≡ done (r, C, Δ, ts) l n
  pub rule_is : a.rule ≡ rule_number r
  pub kids_is : a.kids ≡ children ts
  pub few : children ts < 5
  pub land : Landed q w' s a 4 C Δ ts l n

pub fired_by : {q w' : List ℕ} {s : State} {z : Step} {a : Answer} {R : Out Fired} → EndsR q w' s z R → z ≡ Ok a → FiredBy q w' s a R
fired_by {q} {w'} {s} {z} {a} {R} h e = go (rw e at h)
  where
    go : {S : Out Fired} → EndsR q w' s (Ok a) S → FiredBy q w' s a S
    go (fired {C = C} {Δ = Δ} {ts = ts} {r = r} {l = l} {n = n} p u v y) = record {
      C = C;
      Δ = Δ;
      ts = ts;
      r = r;
      l = l;
      n = n;
      is = refl;
      rule_is = p;
      kids_is = u;
      few = v;
      land = y;
    }

-- ## What a type error says

pub record FailsBy {A : Type 0} (q w' : List ℕ) (b : Bad) (R : Out A) : Type 0 where
  pub e : TypeError
  pub is : R ≡ fail e b.st.left
  pub fails : Failed q w' b e b.st.left

pub failed_by : {q w' : List ℕ} {s : State} {z : Step} {b : Bad} {R : Out Result} → EndsJ q w' s z R → z ≡ Err (Fail b) → FailsBy q w' b R
failed_by {q} {w'} {s} {z} {b} {R} h d = go (rw d at h)
  where
    go : {S : Out Result} → EndsJ q w' s (Err (Fail b)) S → FailsBy q w' b S
    go (failed {e = e} x) = record { e = e; is = rw x.left refl; fails = rw (← x.left) at x }

pub refused_by : {q w' : List ℕ} {s : State} {z : Step} {b : Bad} {R : Out Fired} → EndsR q w' s z R → z ≡ Err (Fail b) → FailsBy q w' b R
refused_by {q} {w'} {s} {z} {b} {R} h d = go (rw d at h)
  where
    go : {S : Out Fired} → EndsR q w' s (Err (Fail b)) S → FailsBy q w' b S
    go (refused {e = e} x) = record { e = e; is = rw x.left refl; fails = rw (← x.left) at x }

pub out_by : {q w' : List ℕ} {s : State} {z : Step} {R : Out Fired} → EndsR q w' s z R → z ≡ Err Spent → R ≡ stop
out_by {q} {w'} {s} h d = go (rw d at h)
  where
    go : {S : Out Fired} → EndsR q w' s (Err Spent) S → S ≡ stop
    go out = refl

-- what was charged is no part of the error
pub failed_again : {q w' : List ℕ} {b : Bad} {e : TypeError} {l u : ℕ} → Failed q w' b e l
    → Failed q w' (record { st = b.st; code = b.code; name = b.name; shown = b.shown; charge = u }) e l
failed_again x = record { base = x.base; within = x.within; code = x.code; name = x.name; shown = x.shown; left = x.left }
