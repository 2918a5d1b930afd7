-- InstLAllR and InstRAllL: rules that open a Forall.
use mathlib.Core.Path.{◌≡◌, ◌∙◌, ap}
use mathlib.Core.List.{List}
use Prim.Native.Nat.{ℕ}
use Rattle.std.specs.Prelude.{Result}
use Rattle.definition.specs.Syntax.{Ty, forall, Side, Judgement, inst}
use Rattle.definition.specs.Rules.{other, rule, judge}
use Rattle.layout.specs.Denotes.{Den}
use Rattle.layout.specs.Room.{Room}
use Rattle.layout.specs.declared.Span.{Span}
use Rattle.layout.specs.declared.Spent.{Spent}
use Rattle.layout.specs.declared.State.{State}
use Rattle.layout.proofs.Denotes.{den_frame}
use Rattle.judging.specs.Asking.{here, Asks, inst_ask, Small}
use Rattle.judging.specs.declared.Here.{Here}
use Rattle.judging.proofs.Asking.{small_inst, InstAsked, inst_asked, asks_inst}
use Rattle.rules.specs.Opening.{ForallPre, OpensOn}
use Rattle.rules.specs.Sides.{binder}
use Rattle.rules.specs.declared.Body.{Body}
use Rattle.rules.proofs.TypeForms.{IsForall, is_forall}
use Rattle.rules.proofs.Standing.{forall_pre, ref_small}
use Rattle.rules.proofs.Under.{Under}
use Rattle.instantiation.specs.Sides.{FormPre}
use Rattle.instantiation.proofs.Sides.{inst_all}
use Rattle.instantiation.proofs.Equations.{all_is}

module _ {q w : List ℕ} {s : State} {g : Span} {sd : Side} {a t : ℕ} (pre : FormPre sd q w s g a t 6) where
  askd : {j : Judgement} → Asks q w s.top g (inst_ask sd a t) j → InstAsked q w s.top g sd a t j
  askd k = inst_asked sd a t k

  inside : {j : Judgement} (k : Asks q w s.top g (inst_ask sd a t) j) → IsForall (askd k).T
  inside k = is_forall (askd k).T (pre.code (askd k).T (askd k).den)

  whole : {j : Judgement} (k : Asks q w s.top g (inst_ask sd a t) j) → Den q w s.top t (forall (inside k).a (inside k).A)
  whole k = rw (inside k).is at (askd k).den

  says : (m : Here) {j : Judgement} (k : Asks q w s.top g (inst_ask sd a t) j) → rule (here m) (judge (here m)) j s.left s.fresh
      ≡ rule (here m) (judge (here m)) (inst sd (askd k).Γ (askd k).x (forall (inside k).a (inside k).A)) s.left s.fresh
  says m k =
      ap (λ (i : Judgement). rule (here m) (judge (here m)) i s.left s.fresh)
      ((askd k).is ∙ ap (λ (T : Ty). inst sd (askd k).Γ (askd k).x T) (inside k).is)

  pub all_open : ForallPre q w s g t
  all_open =
      let v = askd pre.pre.asks in
      forall_pre pre.pre.room v.run v.den (pre.code v.T v.den)

  -- the unknown stays a word
  pub all_small : {w₁ : List ℕ} {s₁ : State} {k r : ℕ} → Room q w₁ s₁ k → (T : Ty) → Den q w₁ s₁.top r T → Small (inst_ask sd a r)
  all_small room T d = small_inst sd (ref_small pre.pre.room (askd pre.pre.asks).unknown) (ref_small room d)

  -- the Forall stands on the other side
  pub under_on : {m : Here} {w₁ : List ℕ} {od : Side} {x : Result Body Spent} → od ≡ other sd → OpensOn m q w w₁ s g t od x → (j : Judgement)
      → Asks q w s.top g (inst_ask sd a t) j → Under m q w w₁ s g (λ p. inst_ask sd a p.ty) (binder od) (inst_all sd) x j
  under_on {m} eo in₁ j k = record {
    b = (inside k).a;
    Δ = _;
    O = _;
    opens = in₁.opens _ _ _ (askd k).run (whole k);
    i = _;
    asks = λ p T bt op. asks_inst sd op.run (den_frame bt.keep bt.up (askd k).unknown) op.den;
    says = says m k ∙ rw eo (all_is (here m) (judge (here m)) (askd k).Γ (askd k).x s.left s.fresh sd (inside k).a (inside k).A);
  }
