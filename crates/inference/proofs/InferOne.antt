-- The rules of infer that ask one judgement: InfAnn, InfLam, InfTAbs, InfTApp.
use mathlib.Core.Path.{◌≡◌, refl}
use mathlib.Core.Bool.{true}
use mathlib.Core.List.{List, [], ◌∷◌}
use Prim.Native.Nat.{ℕ}
use native.Mathlib.Omega.{arith}
use native.Mathlib.Numerals.{add-one}
use Rattle.std.specs.Prelude.{Result as Outcome, Ok, Err, IsErrAnd}
use Rattle.definition.specs.Syntax
use Rattle.definition.specs.Syntax.{etvar, arrow, forall, Judgement, infer, check, leaf, ◌&◌, rule_number, children, var_bnd, tvar_bnd, etvar_bnd}
use Rattle.definition.specs.Run.{◌>>=◌, and_then, give, fresh}
use Rattle.definition.specs.Contexts.{k_var, k_tvar, ◌▹◌, solved_and_right}
use Rattle.definition.specs.Types.{apply}
use Rattle.definition.specs.Rules.{◌from◌, judge, infer_rule, inf_ann, inf_lam, inf_tabs, inf_tapp, instantiate}
use Rattle.layout.specs.Sizes.{INT}
use Rattle.layout.specs.Names.{tm, ty}
use Rattle.layout.specs.Places.{CodeAt}
use Rattle.layout.specs.Denotes.{written}
use Rattle.layout.specs.States.{fresh_name}
use Rattle.layout.specs.declared.Span.{Span}
use Rattle.layout.specs.declared.State.{State}
use Rattle.layout.specs.declared.Entry.{Entry}
use Rattle.layout.specs.declared.Key.TheVariants.{TVar}
use Rattle.layout.specs.declared.Made.{Made}
use Rattle.layout.specs.declared.Spent as layout
use Rattle.layout.proofs.Denotes.{run_frame}
use Rattle.types.proofs.Held.{room_held}
use Rattle.expressions.specs.declared.Abs.{Abs}
use Rattle.expressions.specs.declared.Typed.{Typed}
use Rattle.expressions.specs.declared.TAbs.{TAbs}
use Rattle.expressions.specs.Forms.{IsAbs, IsTyped, IsTAbs, AbsOf, TypedOf, TAbsOf}
use Rattle.contexts.specs.Build.{Space, SmallEntries, Pushed}
use Rattle.contexts.specs.declared.Opened.{Opened}
use Rattle.contexts.proofs.Build.{small_one, push_one}
use Rattle.substitution.specs.Calls.{ApplyPre, Applied}
use Rattle.judging.specs.declared.Answer.{Answer}
use Rattle.judging.specs.declared.Here.{Here}
use Rattle.judging.specs.declared.Stop.{Stop}
use Rattle.judging.specs.declared.Stop.TheVariants.{Spent}
use Rattle.judging.specs.Asking.{here, EntryFrom, infer_ask, check_ask}
use Rattle.judging.specs.Ending.{Step, Judged, Fires}
use Rattle.judging.proofs.Asking.{infer_asked}
use Rattle.judging.proofs.Steps.{stop_is}
use Rattle.judging.proofs.Entries.{entry_small, as_tvar}
use Rattle.rules.specs.declared.Lam.{Lam}
use Rattle.rules.specs.Taking.{InferPre}
use Rattle.rules.specs.Going.{LamPre, LamIn, Two, DenOne, Instantiated, PlainOut, kept, KeepOut, TabsPre, TabsOut}
use Rattle.rules.proofs.Standing.{room_space, infer_shaped}
use Rattle.rules.proofs.Ways.{Way, went, grown, apply_pre, AppliedTo, apply_spent, apply_done, onward, there, finish}
use Rattle.inference.proofs.Starting.{outcome, begin_infer}
use Rattle.inference.proofs.Premise.{At, Starts, Premise, ask_infer, ask_check, Returns, returns}

-- ## InfAnn

module _ (m : Here) {q w : List ℕ} {s : State} {g : Span} {ex : ℕ} (pre : InferPre q w s g ex 21) {p : Typed}
    (parts : CodeAt q ex 21 → TypedOf Syntax.ann q ex p) where
  pub ann : {j : Judgement} (k : At pre.rule j) → IsTyped Syntax.ann q ex p (infer_asked ex k).e
  ann k = (parts (infer_shaped pre).code).is (infer_asked ex k).at

  pub ann_way : {j : Judgement} (k : At pre.rule j)
      → Starts m q w s g j (judge (here m) (check (infer_asked ex k).Γ (ann k).f (ann k).A) >>= λ r. give (Syntax.InfAnn, (ann k).A, r.1, r.2 & leaf))
  unfolding infer_rule inf_ann
  ann_way k = begin_infer m pre.rule (infer_asked ex k).is (ann k).is refl

  pub ann_asks : Premise m pre.rule _ _ (λ j k. ann_way k) g (check_ask p.e p.ty)
  ann_asks = record { at = λ j k. ask_check (infer_asked ex k).run (ann k).part (written (ann k).type) }

  pub ann_done : {w₁ : List ℕ} {z y : Step} {r : Answer} → Judged m q w w₁ s g (check_ask p.e p.ty) z → z ≡ Ok r
      → PlainOut r.st r.g p.ty 12 1 y → Fires m q w w₁ s g (infer_ask ex) y
  unfolding rule_number children
  ann_done call d fin = record {
    run = λ j k.
        let b = returns ann_asks call d k in
        finish Syntax.InfAnn (fin.finished _ _) b.run (written (ann k).type) b.way (omega arith) refl refl (omega arith);
  }

-- ## InfLam

module _ (m : Here) {q w : List ℕ} {s : State} {g : Span} {ex : ℕ} (pre : InferPre q w s g ex 18) {p : Abs} (parts : AbsOf q ex p) where
  pub lam : {j : Judgement} (k : At pre.rule j) → IsAbs q ex p (infer_asked ex k).e
  lam k = parts.is (infer_asked ex k).at

  pub abs_lam : LamPre q w s g p.ty
  abs_lam = let k = pre.rule.asks in
      record { room = pre.rule.room; names = pre.rule.names; below = (infer_asked ex k).run.below; type = _; den = written (lam k).type }

  -- the parameter and a fresh unknown entered the context
  module _ {w₁ : List ℕ} {o : Lam} (i : LamIn m q w w₁ s g p.x p.ty o) where
    pub abs_way : {j : Judgement} (k : At pre.rule j)
        → let a = etvar (fresh_name s.fresh) in
        Way q w w₁ s o.st leaf 0 (outcome m s j)
        (judge (here m) (check ((infer_asked ex k).Γ ▹ var_bnd (tm p.x) (lam k).A from here m ▹ etvar_bnd (fresh_name s.fresh) from here m) (lam k).d a)
        >>= λ r. give (Syntax.InfLam, arrow (lam k).A a, solved_and_right (k_var (tm p.x)) r.1, r.2 & leaf))
    unfolding infer_rule inf_lam fresh ◌>>=◌ and_then
    abs_way k =
        let f = i.fresh in let left = i.left in
        went (begin_infer m pre.rule (infer_asked ex k).is (lam k).is refl) o.st 0 i.keep i.up i.low i.left (omega (arith, i.most))
        (omega (arith, pre.rule.names)) (rw (left, f, add-one) refl)

    pub abs_asks : Premise m pre.rule _ _ (λ j k. abs_way k) o.g (check_ask p.body o.b)
    abs_asks = record {
      at = λ j k.
          let v = infer_asked ex k in let u = lam k in
          ask_check (i.run v.Γ u.A v.run (written u.type)) u.body i.unknown;
    }

    pub abs_done : {w₂ w₃ : List ℕ} {z y : Step} {r : Answer} → Judged m q w₁ w₂ o.st o.g (check_ask p.body o.b) z → z ≡ Ok r
        → KeepOut true w₂ w₃ r (k_var (tm p.x)) o.ty 4 1 y → Fires m q w w₃ s g (infer_ask ex) y
    unfolding rule_number children kept
    abs_done call d fin = record {
      run = λ j k.
          let b = returns abs_asks call d k in let u = lam k in
          finish Syntax.InfLam (fin.finished q) b.run (b.stays (i.arrow u.A (written u.type))) b.way (omega arith) refl refl (omega arith);
    }

-- ## InfTAbs

module _ (m : Here) {q w : List ℕ} {s : State} {g : Span} {ex : ℕ} (pre : InferPre q w s g ex 20) {p : TAbs} (parts : TAbsOf q ex p)
    {e : Entry} (made : EntryFrom m (TVar p.a) INT e) where
  pub tabs : {j : Judgement} (k : At pre.rule j) → IsTAbs q ex p (infer_asked ex k).e
  tabs k = parts.is (infer_asked ex k).at

  pub tabs_space : Space w s g 1 × SmallEntries (e ∷ [])
  tabs_space = (room_space pre.rule.room g 1 (infer_asked ex pre.rule.asks).run (omega arith), small_one (entry_small made (omega arith)))

  -- the name entered the context
  module _ {w₁ : List ℕ} {o : Opened} (i : Pushed w w₁ s g (e ∷ []) o) where
    pub tabs_way : {j : Judgement} (k : At pre.rule j)
        → let a = ty p.a in
        Way q w w₁ s o.st leaf 0 (outcome m s j)
        (judge (here m) (infer ((infer_asked ex k).Γ ▹ tvar_bnd a from here m) (tabs k).d)
        >>= λ r. apply r.1 r.0 >>= λ A. give (Syntax.InfTAbs, forall a A, solved_and_right (k_tvar a) r.1, r.2 & leaf))
    unfolding infer_rule inf_tabs
    tabs_way k = grown (begin_infer m pre.rule (infer_asked ex k).is (tabs k).is refl) 0 i.grown (omega arith)

    pub tabs_asks : Premise m pre.rule _ _ (λ j k. tabs_way k) o.g (infer_ask p.body)
    tabs_asks = record { at = λ j k. ask_infer (push_one i (infer_asked ex k).run (as_tvar made pre.rule.room.base)) (tabs k).body }

    -- its body was inferred
    module _ {w₂ : List ℕ} {z : Step} (call : Judged m q w₁ w₂ o.st o.g (infer_ask p.body) z) {r : Answer} (d : z ≡ Ok r) where
      pub tabs_back : {j : Judgement} (k : At pre.rule j) → Returns tabs_asks call k r
      tabs_back k = returns tabs_asks call d k

      pub tabs_apply : ApplyPre q w₂ r.st r.g r.ty
      tabs_apply = let b = tabs_back pre.rule.asks in apply_pre b.way.room b.run b.den

      -- the context was applied to its type
      module _ {w₃ : List ℕ} {v : Outcome Made layout.Spent} (ap : Applied q w₂ w₃ r.st r.g r.ty v) where
        pub tabs_spent : {x : layout.Spent} {y : Step} → v ≡ Err x → IsErrAnd y (λ u. u ≡ Spent) → Fires m q w w₃ s g (infer_ask ex) y
        tabs_spent f h = rw (stop_is _ h) (record { run = λ j k. let b = tabs_back k in apply_spent _ b.way ap b.run b.den f })

        module _ {t : Made} (f : v ≡ Ok t) where
          tabs_applied : {j : Judgement} (k : At pre.rule j) → let b = tabs_back k in AppliedTo _ b.way ap b.run b.den t.st t.ty
          tabs_applied k = let b = tabs_back k in apply_done _ b.way ap b.run b.den f

          pub tabs_pre : TabsPre q w₃ t.st r.g t.ty
          tabs_pre =
              let u = tabs_applied pre.rule.asks in
              let rm = u.way.room in
              record { held = room_held rm u.den; below = u.run.below; room = omega (arith, rm.fits); low = rm.low }

          pub tabs_done : {w₄ : List ℕ} {y : Step} → TabsOut q w₃ w₄ t.st r.g (ty p.a) t.ty y → Fires m q w w₄ s g (infer_ask ex) y
          unfolding rule_number children
          tabs_done fin = record {
            run = λ j k.
                let u = tabs_applied k in
                finish Syntax.InfTAbs fin.finished u.run u.den u.way (omega arith) refl refl (omega arith);
          }

-- ## InfTApp

module _ (m : Here) {q w : List ℕ} {s : State} {g : Span} {ex : ℕ} (pre : InferPre q w s g ex 19) {p : Typed}
    (parts : CodeAt q ex 19 → TypedOf Syntax.tapp q ex p) where
  pub tapp : {j : Judgement} (k : At pre.rule j) → IsTyped Syntax.tapp q ex p (infer_asked ex k).e
  tapp k = (parts (infer_shaped pre).code).is (infer_asked ex k).at

  pub tapp_way : {j : Judgement} (k : At pre.rule j)
      → Starts m q w s g j
      (judge (here m) (infer (infer_asked ex k).Γ (tapp k).f) >>= λ r. instantiate (tapp k).A r.0 >>= λ A. give (Syntax.InfTApp, A, r.1, r.2 & leaf))
  unfolding infer_rule inf_tapp
  tapp_way k = begin_infer m pre.rule (infer_asked ex k).is (tapp k).is refl

  pub tapp_asks : Premise m pre.rule _ _ (λ j k. tapp_way k) g (infer_ask p.e)
  tapp_asks = record { at = λ j k. ask_infer (infer_asked ex k).run (tapp k).part }

  -- its expression was inferred
  module _ {w₁ : List ℕ} {z : Step} (call : Judged m q w w₁ s g (infer_ask p.e) z) {r : Answer} (d : z ≡ Ok r) where
    pub tapp_back : {j : Judgement} (k : At pre.rule j) → Returns tapp_asks call k r
    tapp_back k = returns tapp_asks call d k

    pub tapp_two : Two q w₁ r.st r.ty p.ty
    tapp_two = let k = pre.rule.asks in let b = tapp_back k in
        record { spare = _; room = b.way.room; A = _; B = _; left = b.den; right = written (tapp k).type }

    module _ {w₂ : List ℕ} {v : Outcome Made Stop} (o : Instantiated q w₁ w₂ r.st r.ty p.ty v) where
      pub tapp_end : {e : Stop} {y : Step} → v ≡ Err e → IsErrAnd y (λ u. u ≡ e) → Fires m q w w₂ s g (infer_ask ex) y
      tapp_end f h = rw (stop_is _ h) (record {
        run = λ j k. let b = tapp_back k in there (λ u. u.st) (DenOne q w₂) _ _ b.way (o.passes _ _ b.den (written (tapp k).type)) f;
      })

      pub tapp_done : {t : Made} {y : Step} → v ≡ Ok t → PlainOut t.st r.g t.ty 14 1 y → Fires m q w w₂ s g (infer_ask ex) y
      unfolding rule_number children
      tapp_done f fin = record {
        run = λ j k.
            let b = tapp_back k in
            let u = onward (λ u. u.st) (DenOne q w₂) _ _ b.way (o.passes _ _ b.den (written (tapp k).type)) f in
            finish Syntax.InfTApp (fin.finished _ _) (run_frame u.keep u.up b.run) u.says u.way (omega arith) refl refl (omega arith);
      }
