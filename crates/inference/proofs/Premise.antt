-- A premise of a rule: the judgement that is asked on a rule's way, and what follows from it whatever the rule.
use mathlib.Core.Path.{◌≡◌, refl, sym, ◌∙◌}
use mathlib.Core.List.{List}
use Prim.Native.Nat.{ℕ, ◌+◌, ◌*◌, ◌<◌}
use native.Mathlib.Omega.{arith}
use Rattle.std.specs.Prelude.{Ok, Err, IsErrAnd}
use Rattle.definition.specs.Syntax.{Ty, Expr, Ctx, Judgement, infer, check, infer_app, Trees, leaf}
use Rattle.definition.specs.Run.{Out, M, ◌>>=◌}
use Rattle.definition.specs.Rules.{Fired, Result, judge}
use Rattle.layout.specs.Places.{ExprAt}
use Rattle.layout.specs.Denotes.{Den, Run}
use Rattle.layout.specs.declared.Span.{Span}
use Rattle.layout.specs.declared.State.{State}
use Rattle.contexts.specs.Build.{Space}
use Rattle.judging.specs.declared.Answer.{Answer}
use Rattle.judging.specs.declared.Ask.{Ask}
use Rattle.judging.specs.declared.Here.{Here}
use Rattle.judging.specs.declared.Stop.{Stop}
use Rattle.judging.specs.Asking.{here, Asks, as_infer, as_check, as_app, infer_ask, check_ask, app_ask, JudgePre, RulePre}
use Rattle.judging.specs.Ending.{Step, Judged, Fires}
use Rattle.judging.proofs.Steps.{not_done, stop_is}
use Rattle.rules.proofs.Standing.{room_space}
use Rattle.rules.proofs.Ways.{Way, asks_infer, asks_check, asks_app, otherwise, Back, back}
use Rattle.inference.proofs.Starting.{outcome}

-- how a rule may be asked
abbrev pub At : {q w : List ℕ} {s : State} {g : Span} {a : Ask} → RulePre q w s g a → Judgement → Type 0
At {q} {w} {s} {g} {a} pre j = Asks q w s.top g a j

-- how a rule begins that starts in s
abbrev pub Starts : Here → List ℕ → List ℕ → State → Span → Judgement → M Fired → Type 0
Starts m q w s g j f = Way q w w s s leaf (20 + 28 * g.n) (outcome m s j) f

-- on the way y the judgement i is asked, by the code as b
pub record Asked (m : Here) {q w w₁ : List ℕ} {s s₁ : State} {ts : Trees} {n : ℕ} {R : Out Fired} (i : Judgement) (f : Result → M Fired)
    (y : Way q w w₁ s s₁ ts n R (judge (here m) i >>= f)) (g : Span) (b : Ask) : Type 0 where
  pub asks : Asks q w₁ s₁.top g b i
  pub pre : JudgePre q w₁ s₁ g b

module _ {m : Here} {q w w₁ : List ℕ} {s s₁ : State} {ts : Trees} {n : ℕ} {R : Out Fired} {Γ : Ctx} {e : Expr} {f : Result → M Fired} {g : Span} {p : ℕ} where
  pub ask_infer : {y : Way q w w₁ s s₁ ts n R (judge (here m) (infer Γ e) >>= f)} → Run q w₁ s₁.top g.at g.n Γ → ExprAt q p e
      → Asked m (infer Γ e) f y g (infer_ask p)
  ask_infer {y} r x = let k : Asks q w₁ s₁.top g (infer_ask p) (infer Γ e) = as_infer refl r x in record { asks = k; pre = asks_infer y.room k }

  pub ask_check : {B : Ty} {t : ℕ} {y : Way q w w₁ s s₁ ts n R (judge (here m) (check Γ e B) >>= f)} → Run q w₁ s₁.top g.at g.n Γ → ExprAt q p e
      → Den q w₁ s₁.top t B → Asked m (check Γ e B) f y g (check_ask p t)
  ask_check {B} {t} {y} r x d = let k : Asks q w₁ s₁.top g (check_ask p t) (check Γ e B) = as_check refl r x d in record { asks = k; pre = asks_check y.room k }

  pub ask_app : {A : Ty} {t : ℕ} {y : Way q w w₁ s s₁ ts n R (judge (here m) (infer_app Γ e A) >>= f)} → Run q w₁ s₁.top g.at g.n Γ → ExprAt q p e
      → Den q w₁ s₁.top t A → Asked m (infer_app Γ e A) f y g (app_ask t p)
  ask_app {A} {t} {y} r x d = let k : Asks q w₁ s₁.top g (app_ask t p) (infer_app Γ e A) = as_app refl r x d in record { asks = k; pre = asks_app y.room k }

-- the same for all judgements that the rule may be asked as
pub record Premise (m : Here) {q w w₁ : List ℕ} {s s₁ : State} {g : Span} {a : Ask} (rule : RulePre q w s g a) {n : ℕ} {ts : (j : Judgement) → At rule j → Trees}
    (i : (j : Judgement) → At rule j → Judgement) (f : (j : Judgement) → At rule j → Result → M Fired)
    (y : (j : Judgement) (k : At rule j) → Way q w w₁ s s₁ (ts j k) n (outcome m s j) (judge (here m) (i j k) >>= f j k)) (g₁ : Span) (b : Ask) : Type 0 where
  pub at : (j : Judgement) (k : At rule j) → Asked m (i j k) (f j k) (y j k) g₁ b

module _ {m : Here} {q w w₁ : List ℕ} {s s₁ : State} {g : Span} {a : Ask} {rule : RulePre q w s g a} {n : ℕ} {ts : (j : Judgement) → At rule j → Trees}
    {i : (j : Judgement) → At rule j → Judgement} {f : (j : Judgement) → At rule j → Result → M Fired}
    {y : (j : Judgement) (k : At rule j) → Way q w w₁ s s₁ (ts j k) n (outcome m s j) (judge (here m) (i j k) >>= f j k)} {g₁ : Span} {b : Ask}
    (p : Premise m rule i f y g₁ b) where
  -- it may be asked: less of the budget is left, so that the cycle's measure falls
  pub may_ask : {t : ℕ} → 3 * s.left + 1 ≡ t → (3 * s₁.left < t) × JudgePre q w₁ s₁ g₁ b
  may_ask h = (omega (arith, (y _ rule.asks).so.less), (p.at _ rule.asks).pre)

  module _ {w₂ : List ℕ} {z : Step} (call : Judged m q w₁ w₂ s₁ g₁ b z) where
    -- it did not end well
    pub unless : {e : Stop} {r : Step} → z ≡ Err e → IsErrAnd r (λ y. y ≡ e) → Fires m q w w₂ s g a r
    unless d h = rw (stop_is _ h ∙ sym d) (record { run = λ j k. otherwise _ _ (y j k) (call.run _ (p.at j k).asks) (not_done d) })

    -- it came back
    abbrev pub Returns : {j : Judgement} → At rule j → Answer → Type 0
    Returns {j} k r = Back _ _ (y j k) (call.run _ (p.at j k).asks) r

    pub returns : {r : Answer} → z ≡ Ok r → {j : Judgement} (k : At rule j) → Returns k r
    returns d {j} k = back _ _ (y j k) (call.run _ (p.at j k).asks) d

    pub space_back : {r : Answer} → z ≡ Ok r → Space w₂ r.st r.g 0
    space_back {r} d = let b = returns d rule.asks in room_space b.way.room r.g 0 b.run (omega arith)
