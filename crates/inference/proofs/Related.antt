-- Subtyping of two types with the context applied, as a judgement of its own: InfIf and ChkSub end by it.
use mathlib.Core.Path.{◌≡◌, refl, sym, ◌∙◌, ap}
use mathlib.Core.Bool.{Bool}
use mathlib.Core.List.{List}
use Prim.Native.Nat.{ℕ}
use native.Mathlib.Nat.{le_trans}
use native.Mathlib.Omega.{arith}
use Rattle.std.specs.Prelude.{Result as Outcome, Ok, Err}
use Rattle.definition.specs.Syntax.{Ty, Ctx, subtype}
use Rattle.definition.specs.Run.{Out, done, fail, stop, M, and_then, ◌>>=◌, give}
use Rattle.definition.specs.Rules.{Fired, Result}
use Rattle.laws.proofs.Steps.{bind_done, bind_fail, bind_stop}
use Rattle.layout.specs.Denotes.{Den, Run}
use Rattle.layout.specs.declared.Span.{Span}
use Rattle.layout.specs.declared.State.{State}
use Rattle.layout.proofs.Denotes.{run_frame}
use Rattle.substitution.specs.Passing.{Passed}
use Rattle.substitution.proofs.Passing as sub
use Rattle.judging.specs.declared.Here.{Here}
use Rattle.judging.specs.declared.Stop.{Stop}
use Rattle.judging.specs.Asking.{Asks, as_sub, sub_ask, JudgePre}
use Rattle.judging.specs.Ending.{Step, EndsJ, landed, failed, ran_out, RunsJ, Judged}
use Rattle.judging.proofs.Nodes.{nodes_at}
use Rattle.rules.specs.declared.Both.{Both}
use Rattle.rules.specs.Going.{GoesOrEnds, fails, stops, TwoIn, Dens, apply_both, AppliedBoth}
use Rattle.rules.proofs.Ways.{Got, got, asks_sub}
use Rattle.inference.specs.Rules.{relate, Related}

abbrev gives : Ty → Ty → M (Ty × Ty)
gives A B = give (A, B)

abbrev pair : M Ty → M Ty → M (Ty × Ty)
pair x y = x >>= λ A. y >>= λ B. gives A B

-- what is done after each of two steps may be done after both
pub regroup : (x y : M Ty) (f : Ty → Ty → M Result) (h : Result → M Fired) (l n : ℕ)
    → (x >>= λ A. y >>= λ B. f A B >>= h) l n ≡ ((pair x y >>= λ T. f T.0 T.1) >>= h) l n
unfolding ◌>>=◌ and_then give
regroup x y f h l n = first (x l n)
  where
    second : (A : Ty) (o : Out Ty)
        → and_then o (λ B i j. and_then (f A B i j) h) ≡ and_then (and_then (and_then o (λ B i j. gives A B i j)) (λ T i j. f T.0 T.1 i j)) h
    second A (done B i j) = refl
    second A (fail e i) = refl
    second A stop = refl

    first : (o : Out Ty)
        → and_then o (λ A i j. and_then (y i j) (λ B i j. and_then (f A B i j) h))
        ≡ and_then (and_then (and_then o (λ A i j. and_then (y i j) (λ B i j. gives A B i j))) (λ T i j. f T.0 T.1 i j)) h
    first (done A i j) = second A (y i j)
    first (fail e i) = refl
    first stop = refl

-- what ends from a later state ends from an earlier one
later : {q w w₁ w₂ : List ℕ} {s s₁ : State} {z : Step} {R : Out Result} {n : ℕ} → Passed w w₁ s s₁ n → EndsJ q w₂ s₁ z R → EndsJ q w₂ s z R
later p (landed x) =
    landed
    (record {
      run = x.run;
      den = x.den;
      nodes = nodes_at refl p.low x.nodes;
      left = x.left;
      fresh = x.fresh;
      up = le_trans p.up x.up;
      down = omega (arith, p.low, x.down);
      less = omega (arith, p.paid, x.less);
      room = x.room;
    })
later p (failed f) = failed f
later p ran_out = ran_out

module _ {b : Bool} {q w w₁ : List ℕ} {s : State} {g : Span} {x y : ℕ} {v : Outcome Both Stop} (o : AppliedBoth b q w w₁ s g x y v) where
  pub related_end : {m : Here} {e : Stop} → v ≡ Err e → Related m b q w w₁ s g x y (Err e)
  related_end {m} {e} d = record { run = λ Γ A B n h f. go Γ A B refl (rw d at (o.passes Γ A B n h f)) }
    where
      go : (Γ : Ctx) (A B : Ty) {O : Out (Ty × Ty)} {u : Stop} → apply_both b Γ A B s.left s.fresh ≡ O → GoesOrEnds q w w₁ s (λ y. y.st) (Dens q w₁) (Err u) O
          → RunsJ q w w₁ s (Err u) (relate m b Γ A B s.left s.fresh)
      go Γ A B i (fails kp h) = record { keep = kp; ends = rw (bind_fail (apply_both b Γ A B) _ _ _ i) (failed h) }
      go Γ A B i (stops kp) = record { keep = kp; ends = rw (bind_stop (apply_both b Γ A B) _ _ _ i) ran_out }

  module _ {p : Both} (e : v ≡ Ok p) where
    both : (Γ : Ctx) (A B : Ty) → Run q w s.top g.at g.n Γ → Den q w s.top x A → Den q w s.top y B
        → Got w w₁ s (λ y. y.st) (Dens q w₁) (apply_both b Γ A B s.left s.fresh) p
    both Γ A B n h i = got (o.passes Γ A B n h i) e

    related_asks : {Γ : Ctx} {O : Out (Ty × Ty)} → Run q w s.top g.at g.n Γ → (u : Got w w₁ s (λ y. y.st) (Dens q w₁) O p)
        → Asks q w₁ p.st.top g (sub_ask p.a p.b) (subtype Γ u.x.0 u.x.1)
    related_asks n u = as_sub refl refl (run_frame u.passed.keep u.passed.up n) u.says.0 u.says.1

    pub related_ask : TwoIn q w s g x y → JudgePre q w₁ p.st g (sub_ask p.a p.b)
    related_ask pre =
        let u = both pre.Γ pre.two.A pre.two.B pre.run pre.two.left pre.two.right in
        asks_sub (sub.room_on u.passed pre.two.room) (related_asks pre.run u)

    pub related_done : {m : Here} {w₂ : List ℕ} {z : Step} → Judged m q w₁ w₂ p.st g (sub_ask p.a p.b) z → Related m b q w w₂ s g x y z
    related_done {m} {w₂} {z} call = record {
      run = λ Γ A B n h i.
          let u = both Γ A B n h i in
          let k = call.run _ (related_asks n u) in
          let is : apply_both b Γ A B s.left s.fresh ≡ done u.x p.st.left p.st.fresh =
          u.is ∙ ap (λ (f : ℕ). done u.x p.st.left f) (sym u.passed.fresh) in
          record { keep = sub.keep_on u.passed k.keep; ends = rw (bind_done (apply_both b Γ A B) _ _ _ is) (later u.passed k.ends) };
    }
