-- The rules of infer that ask two judgements: InfApp, InfLet, and the operators.
use mathlib.Core.Path.{◌≡◌, refl, ◌∙◌, ap}
use mathlib.Core.Bool.{true}
use mathlib.Core.List.{List, [], ◌∷◌}
use Prim.Native.Nat.{ℕ}
use native.Mathlib.Omega.{arith}
use Rattle.std.specs.Option.{unwrap_or}
use Rattle.std.specs.Prelude.{Option, Some, None, Result as Outcome, Ok, Err, IsErrAnd}
use Rattle.definition.specs.Syntax
use Rattle.definition.specs.Syntax.{pick, Ty, Expr, Ctx, Judgement, infer, check, infer_app, Trees, leaf, ◌&◌, rule_number, children, var_bnd}
use Rattle.definition.specs.Run.{Out, M, ◌>>=◌, give}
use Rattle.definition.specs.Contexts.{k_var, ◌▹◌, solved_and_right}
use Rattle.definition.specs.Types.{apply}
use Rattle.definition.specs.Rules.{Fired, Result, ◌from◌, judge, infer_rule, inf_app, inf_let}
use Rattle.layout.specs.Names.{tm}
use Rattle.layout.specs.Places.{ExprAt}
use Rattle.layout.specs.Denotes.{Den, Run}
use Rattle.layout.specs.declared.Span.{Span}
use Rattle.layout.specs.declared.State.{State}
use Rattle.layout.specs.declared.Entry.{Entry}
use Rattle.layout.specs.declared.Key.TheVariants.{Var}
use Rattle.layout.specs.declared.Made.{Made}
use Rattle.layout.specs.declared.Spent as layout
use Rattle.expressions.specs.declared.App.{App}
use Rattle.expressions.specs.declared.Let.{Let}
use Rattle.expressions.specs.declared.BinOp.{BinOp}
use Rattle.expressions.specs.Forms.{IsApp, IsLet, IsBinOp, AppOf, LetOf, BinOpOf}
use Rattle.contexts.specs.Build.{Space, SmallEntries, Pushed}
use Rattle.contexts.specs.declared.Opened.{Opened}
use Rattle.contexts.proofs.Build.{small_one, push_one}
use Rattle.substitution.specs.Calls.{ApplyPre, Applied}
use Rattle.judging.specs.Names.{rule_of}
use Rattle.judging.specs.declared.Answer.{Answer}
use Rattle.judging.specs.declared.Ask.{Ask}
use Rattle.judging.specs.declared.Here.{Here}
use Rattle.judging.specs.declared.Stop.TheVariants.{Spent}
use Rattle.judging.specs.Asking.{here, EntryFrom, infer_ask, check_ask, app_ask}
use Rattle.judging.specs.Ending.{Step, Judged, Fires}
use Rattle.judging.proofs.Asking.{infer_asked}
use Rattle.judging.proofs.Steps.{stop_is}
use Rattle.judging.proofs.Entries.{entry_small, as_var}
use Rattle.rules.specs.Taking.{InferPre}
use Rattle.rules.specs.Going.{PlainOut, kept, KeepOut}
use Rattle.rules.proofs.Standing.{room_space, ref_small}
use Rattle.rules.proofs.Ways.{Way, grown, apply_pre, AppliedTo, apply_spent, apply_done, finish}
use Rattle.inference.specs.declared.Sides.{Sides}
use Rattle.inference.specs.Rules.{inf_sides, infers, Operates}
use Rattle.inference.proofs.Starting.{outcome, begin_infer}
use Rattle.inference.proofs.Premise.{At, Starts, Asked, Premise, ask_infer, ask_check, ask_app, Returns, returns}

-- ## InfApp

module _ (m : Here) {q w : List ℕ} {s : State} {g : Span} {ex : ℕ} (pre : InferPre q w s g ex 17) {p : App} (parts : AppOf q ex p) where
  pub app : {j : Judgement} (k : At pre.rule j) → IsApp q ex p (infer_asked ex k).e
  app k = parts.is (infer_asked ex k).at

  pub app_way : {j : Judgement} (k : At pre.rule j)
      → Starts m q w s g j
      (judge (here m) (infer (infer_asked ex k).Γ (app k).f) >>= λ r. apply r.1 r.0
      >>= λ A. judge (here m) (infer_app r.1 (app k).d A) >>= λ u. give (Syntax.InfApp, u.0, u.1, r.2 & u.2 & leaf))
  unfolding infer_rule inf_app
  app_way k = begin_infer m pre.rule (infer_asked ex k).is (app k).is refl

  pub app_asks : Premise m pre.rule _ _ (λ j k. app_way k) g (infer_ask p.func)
  app_asks = record { at = λ j k. ask_infer (infer_asked ex k).run (app k).func }

  -- the function was inferred
  module _ {w₁ : List ℕ} {z : Step} (call : Judged m q w w₁ s g (infer_ask p.func) z) {r : Answer} (d : z ≡ Ok r) where
    pub app_back : {j : Judgement} (k : At pre.rule j) → Returns app_asks call k r
    app_back k = returns app_asks call d k

    pub app_apply : ApplyPre q w₁ r.st r.g r.ty
    app_apply = let b = app_back pre.rule.asks in apply_pre b.way.room b.run b.den

    -- the context was applied to its type
    module _ {w₂ : List ℕ} {v : Outcome Made layout.Spent} (ap : Applied q w₁ w₂ r.st r.g r.ty v) where
      pub app_spent : {x : layout.Spent} {y : Step} → v ≡ Err x → IsErrAnd y (λ u. u ≡ Spent) → Fires m q w w₂ s g (infer_ask ex) y
      app_spent f h = rw (stop_is _ h) (record { run = λ j k. let b = app_back k in apply_spent _ b.way ap b.run b.den f })

      module _ {t : Made} (f : v ≡ Ok t) where
        pub app_applied : {j : Judgement} (k : At pre.rule j) → let b = app_back k in AppliedTo _ b.way ap b.run b.den t.st t.ty
        app_applied k = let b = app_back k in apply_done _ b.way ap b.run b.den f

        pub app_asks₂ : Premise m pre.rule _ _ (λ j k. (app_applied k).way) r.g (app_ask t.ty p.arg)
        app_asks₂ = record { at = λ j k. let u = app_applied k in ask_app u.run (app k).arg u.den }

        pub app_done : {w₃ : List ℕ} {y o : Step} {u : Answer} → Judged m q w₂ w₃ t.st r.g (app_ask t.ty p.arg) y → y ≡ Ok u
            → PlainOut u.st u.g u.ty 5 2 o → Fires m q w w₃ s g (infer_ask ex) o
        unfolding rule_number children
        app_done call₂ d₂ fin = record {
          run = λ j k.
              let b = returns app_asks₂ call₂ d₂ k in
              finish Syntax.InfApp (fin.finished _ _) b.run b.den b.way (omega arith) refl refl (omega arith);
        }

-- ## InfLet

module _ (m : Here) {q w : List ℕ} {s : State} {g : Span} {ex : ℕ} (pre : InferPre q w s g ex 24) {p : Let} (parts : LetOf q ex p) where
  pub lets : {j : Judgement} (k : At pre.rule j) → IsLet q ex p (infer_asked ex k).e
  lets k = parts.is (infer_asked ex k).at

  pub let_way : {j : Judgement} (k : At pre.rule j)
      → Starts m q w s g j
      (judge (here m) (infer (infer_asked ex k).Γ (lets k).f)
      >>= λ r. judge (here m) (infer (r.1 ▹ var_bnd (tm p.x) r.0 from here m) (lets k).d)
      >>= λ u. give (Syntax.InfLet, u.0, solved_and_right (k_var (tm p.x)) u.1, r.2 & u.2 & leaf))
  unfolding infer_rule inf_let
  let_way k = begin_infer m pre.rule (infer_asked ex k).is (lets k).is refl

  pub let_asks : Premise m pre.rule _ _ (λ j k. let_way k) g (infer_ask p.first)
  let_asks = record { at = λ j k. ask_infer (infer_asked ex k).run (lets k).first }

  -- what the name stands for was inferred
  module _ {w₁ : List ℕ} {z : Step} (call : Judged m q w w₁ s g (infer_ask p.first) z) {r : Answer} (d : z ≡ Ok r)
      {e : Entry} (made : EntryFrom m (Var p.x) r.ty e) where
    pub let_back : {j : Judgement} (k : At pre.rule j) → Returns let_asks call k r
    let_back k = returns let_asks call d k

    pub let_space : Space w₁ r.st r.g 1 × SmallEntries (e ∷ [])
    let_space = let b = let_back pre.rule.asks in
        (room_space b.way.room r.g 1 b.run (omega arith), small_one (entry_small made (ref_small b.way.room b.den)))

    -- the name entered the context
    module _ {w₂ : List ℕ} {o : Opened} (i : Pushed w₁ w₂ r.st r.g (e ∷ []) o) where
      pub let_way₂ : {j : Judgement} (k : At pre.rule j)
          → let b = let_back k in
          Way q w w₂ s o.st (b.t & leaf) 0 (outcome m s j)
          (judge (here m) (infer (b.Δ ▹ var_bnd (tm p.x) b.C from here m) (lets k).d)
          >>= λ u. give (Syntax.InfLet, u.0, solved_and_right (k_var (tm p.x)) u.1, b.t & u.2 & leaf))
      let_way₂ k = grown (let_back k).way 0 i.grown (omega arith)

      pub let_asks₂ : Premise m pre.rule _ _ (λ j k. let_way₂ k) o.g (infer_ask p.body)
      let_asks₂ = record { at = λ j k. let b = let_back k in ask_infer (push_one i b.run (as_var made b.den)) (lets k).body }

      pub let_done : {w₃ w₄ : List ℕ} {y v : Step} {u : Answer} → Judged m q w₂ w₃ o.st o.g (infer_ask p.body) y → y ≡ Ok u
          → KeepOut true w₃ w₄ u (k_var (tm p.x)) u.ty 6 2 v → Fires m q w w₄ s g (infer_ask ex) v
      unfolding rule_number children kept
      let_done call₂ d₂ fin = record {
        run = λ j k.
            let b = returns let_asks₂ call₂ d₂ k in
            finish Syntax.InfLet (fin.finished q) b.run b.den b.way (omega arith) refl refl (omega arith);
      }

-- ## Operators

-- the left side e, as the code asks it
abbrev pub left_ask : Option ℕ → ℕ → Ask
left_ask (Some a) e = check_ask e a
left_ask None e = infer_ask e

left_asks : (b : Option ℕ) {m : Here} {q w w₁ : List ℕ} {s s₁ : State} {ts : Trees} {n : ℕ} {R : Out Fired} {Γ : Ctx} {f : Expr} {A : Ty} {h : Result → M Fired} {e : ℕ}
    {y : Way q w w₁ s s₁ ts n R (judge (here m) (pick (infers b) (infer Γ f) (check Γ f A)) >>= h)} {g : Span} → Run q w₁ s₁.top g.at g.n Γ → ExprAt q e f
    → ((a : ℕ) → b ≡ Some a → Den q w₁ s₁.top a A) → Asked m (pick (infers b) (infer Γ f) (check Γ f A)) h y g (left_ask b e)
unfolding pick
left_asks (Some a) r x d = ask_check r x (d _ refl)
left_asks None r x d = ask_infer r x

-- the type that the right side is checked against
right_den : (b : Option ℕ) {q w : List ℕ} {t x : ℕ} {C A : Ty} → Den q w t x C → ((a : ℕ) → b ≡ Some a → Den q w t a A)
    → Den q w t (unwrap_or b x) (pick (infers b) C A)
unfolding pick
right_den (Some a) d e = e _ refl
right_den None d e = d

module _ (m : Here) {q w : List ℕ} {s : State} {g : Span} {ex : ℕ} (pre : InferPre q w s g ex 26) {p : BinOp} (parts : BinOpOf q ex p)
    {o : Sides} (by : Operates p.op o) where
  pub op : {j : Judgement} (k : At pre.rule j) → IsBinOp q ex p (infer_asked ex k).e
  op k = parts.is (infer_asked ex k).at

  pub op_way : {j : Judgement} (k : At pre.rule j)
      → Starts m q w s g j (inf_sides (judge (here m)) (infers o.against) by.r by.A by.C (infer_asked ex k).Γ (op k).f (op k).d)
  unfolding infer_rule
  op_way k =
      let v = op k in let a = infer_asked ex k in
      begin_infer m pre.rule a.is v.is (by.is v.some (here m) (judge (here m)) a.Γ v.f v.d)

  pub op_asks : Premise m pre.rule _ _ (λ j k. op_way k) g (left_ask o.against p.left)
  op_asks = record { at = λ j k. left_asks o.against (infer_asked ex k).run (op k).left (λ a e. by.side e pre.rule.room.base) }

  -- the left side came back
  module _ {w₁ : List ℕ} {z : Step} (call : Judged m q w w₁ s g (left_ask o.against p.left) z) {r : Answer} (d : z ≡ Ok r) where
    pub op_back : {j : Judgement} (k : At pre.rule j) → Returns op_asks call k r
    op_back k = returns op_asks call d k

    module _ {t : ℕ} (e : t ≡ unwrap_or o.against r.ty) where
      pub op_asks₂ : Premise m pre.rule _ _ (λ j k. (op_back k).way) r.g (check_ask p.right t)
      op_asks₂ = record {
        at = λ j k. let b = op_back k in ask_check b.run (op k).right (rw e (right_den o.against b.den (λ a i. by.side i b.way.room.base)));
      }

      pub op_done : {n : ℕ} {w₂ : List ℕ} {y x : Step} {v : Answer} → Judged m q w₁ w₂ r.st r.g (check_ask p.right t) y → y ≡ Ok v
          → n ≡ rule_number (rule_of o.rule) → PlainOut v.st v.g o.gives n 2 x → Fires m q w w₂ s g (infer_ask ex) x
      unfolding children
      op_done call₂ d₂ e fin = record {
        run = λ j k.
            let b = returns op_asks₂ call₂ d₂ k in
            finish by.r (fin.finished _ _) b.run (by.gives b.way.room.base) b.way (omega arith) (e ∙ ap rule_number by.rule) refl (omega arith);
      }
