-- InfIf: what is known after each premise, and what follows.
use mathlib.Core.Path.{◌≡◌, refl, sym, ◌∙◌}
use mathlib.Core.List.{List}
use Prim.Native.Nat.{ℕ, ◌+◌, ◌*◌}
use native.Mathlib.Omega.{arith}
use Rattle.std.specs.Prelude.{Ok, Err, IsErrAnd}
use Rattle.definition.specs.Syntax
use Rattle.definition.specs.Syntax.{bool, Judgement, infer, check, subtype, leaf, ◌&◌, rule_number, children}
use Rattle.definition.specs.Run.{◌>>=◌, give}
use Rattle.definition.specs.Rules.{judge, infer_rule, inf_if, branch}
use Rattle.layout.specs.Sizes.{BOOL}
use Rattle.layout.specs.declared.Span.{Span}
use Rattle.layout.specs.declared.State.{State}
use Rattle.layout.proofs.Denotes.{bool_den}
use Rattle.expressions.specs.declared.If.{If}
use Rattle.expressions.specs.Forms.{IsIf, IfOf}
use Rattle.judging.specs.declared.Answer.{Answer}
use Rattle.judging.specs.declared.Here.{Here}
use Rattle.judging.specs.declared.Stop.{Stop}
use Rattle.judging.specs.Asking.{here, infer_ask, check_ask}
use Rattle.judging.specs.Ending.{Step, Judged, RunsJ, Fires}
use Rattle.judging.proofs.Steps.{not_done, stop_is}
use Rattle.judging.proofs.Asking.{infer_asked}
use Rattle.rules.specs.Taking.{InferPre}
use Rattle.rules.specs.Going.{TwoIn, PlainOut}
use Rattle.rules.proofs.Ways.{Way, otherwise, back, turn, finish}
use Rattle.inference.specs.Rules.{relate, Related}
use Rattle.inference.proofs.Starting.{outcome, begin_infer}
use Rattle.inference.proofs.Related.{regroup}
use Rattle.inference.proofs.Premise.{At, Starts, Premise, ask_infer, ask_check, Returns, returns}

module _ (m : Here) {q w : List ℕ} {s : State} {g : Span} {ex : ℕ} (pre : InferPre q w s g ex 25) {p : If} (parts : IfOf q ex p) where
  pub ifs : {j : Judgement} (k : At pre.rule j) → IsIf q ex p (infer_asked ex k).e
  ifs k = parts.is (infer_asked ex k).at

  pub if_way : {j : Judgement} (k : At pre.rule j)
      → Starts m q w s g j
      (judge (here m) (check (infer_asked ex k).Γ (ifs k).f bool)
      >>= λ r₁. judge (here m) (infer r₁.1 (ifs k).d)
      >>= λ r₂. judge (here m) (infer r₂.1 (ifs k).d₂)
      >>= λ r₃. branch m.manner.applies_branches r₃.1 r₂.0
      >>= λ A. branch m.manner.applies_branches r₃.1 r₃.0
      >>= λ B. judge (here m) (subtype r₃.1 A B)
      >>= λ r₄. give (Syntax.InfIf, r₂.0, r₄.1, r₁.2 & r₂.2 & r₃.2 & r₄.2 & leaf))
  unfolding infer_rule inf_if
  if_way k = begin_infer m pre.rule (infer_asked ex k).is (ifs k).is refl

  pub if_asks : Premise m pre.rule _ _ (λ j k. if_way k) g (check_ask p.cond BOOL)
  if_asks = record { at = λ j k. ask_check (infer_asked ex k).run (ifs k).cond (bool_den pre.rule.room.base) }

  -- ## The condition was checked

  module _ {w₁ : List ℕ} {z : Step} (call : Judged m q w w₁ s g (check_ask p.cond BOOL) z) {r : Answer} (d : z ≡ Ok r) where
    pub if_back : {j : Judgement} (k : At pre.rule j) → Returns if_asks call k r
    if_back k = returns if_asks call d k

    pub if_asks₂ : Premise m pre.rule _ _ (λ j k. (if_back k).way) r.g (infer_ask p.yes)
    if_asks₂ = record { at = λ j k. ask_infer (if_back k).run (ifs k).yes }

    -- ## The first branch was inferred

    module _ {w₂ : List ℕ} {z₂ : Step} (call₂ : Judged m q w₁ w₂ r.st r.g (infer_ask p.yes) z₂) {u : Answer} (d₂ : z₂ ≡ Ok u) where
      pub if_back₂ : {j : Judgement} (k : At pre.rule j) → Returns if_asks₂ call₂ k u
      if_back₂ k = returns if_asks₂ call₂ d₂ k

      pub if_asks₃ : Premise m pre.rule _ _ (λ j k. (if_back₂ k).way) u.g (infer_ask p.no)
      if_asks₃ = record { at = λ j k. ask_infer (if_back₂ k).run (ifs k).no }

      -- ## The second was: its type is compared

      module _ {w₃ : List ℕ} {z₃ : Step} (call₃ : Judged m q w₂ w₃ u.st u.g (infer_ask p.no) z₃) {v : Answer} (d₃ : z₃ ≡ Ok v) where
        pub if_back₃ : {j : Judgement} (k : At pre.rule j) → Returns if_asks₃ call₃ k v
        if_back₃ k = returns if_asks₃ call₃ d₃ k

        pub if_two : TwoIn q w₃ v.st v.g u.ty v.ty
        if_two = let k = pre.rule.asks in let b = if_back₃ k in
            record { two = record { spare = _; room = b.way.room; A = _; B = _; left = b.stays (if_back₂ k).den; right = b.den }; Γ = _; run = b.run }

        module _ {w₄ : List ℕ} {y : Step} (call₄ : Related m m.manner.applies_branches q w₃ w₄ v.st v.g u.ty v.ty y) where
          if_way₄ : {j : Judgement} (k : At pre.rule j)
              → Way q w w₃ s v.st ((if_back k).t & (if_back₂ k).t & (if_back₃ k).t & leaf) (4 * v.g.n + 4) (outcome m s j)
              (relate m m.manner.applies_branches (if_back₃ k).Δ (if_back₂ k).C (if_back₃ k).C
              >>= λ r₄. give (Syntax.InfIf, (if_back₂ k).C, r₄.1, (if_back k).t & (if_back₂ k).t & (if_back₃ k).t & r₄.2 & leaf))
          if_way₄ k = turn (if_back₃ k).way (regroup _ _ _ _)

          if_runs : {j : Judgement} (k : At pre.rule j)
              → RunsJ q w₃ w₄ v.st y (relate m m.manner.applies_branches (if_back₃ k).Δ (if_back₂ k).C (if_back₃ k).C v.st.left v.st.fresh)
          if_runs k = let b = if_back₃ k in call₄.run b.Δ (if_back₂ k).C b.C b.run (b.stays (if_back₂ k).den) b.den

          pub if_unless : {e : Stop} {o : Step} → y ≡ Err e → IsErrAnd o (λ x. x ≡ e) → Fires m q w w₄ s g (infer_ask ex) o
          if_unless i h = rw (stop_is _ h ∙ sym i) (record { run = λ j k. otherwise _ _ (if_way₄ k) (if_runs k) (not_done i) })

          pub if_done : {x : Answer} {o : Step} → y ≡ Ok x → PlainOut x.st x.g u.ty 7 4 o → Fires m q w w₄ s g (infer_ask ex) o
          unfolding rule_number children
          if_done i fin = record {
            run = λ j k.
                let b = back _ _ (if_way₄ k) (if_runs k) i in
                finish Syntax.InfIf (fin.finished q w₄) b.run (b.stays ((if_back₃ k).stays (if_back₂ k).den)) b.way (omega arith) refl refl (omega arith);
          }
