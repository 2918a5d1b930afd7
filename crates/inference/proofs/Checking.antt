-- The rules of check that ask judgements: ChkLam, ChkAll, ChkSub.
use mathlib.Core.Path.{◌≡◌, refl, sym, ◌∙◌}
use mathlib.Core.Bool.{true, false}
use mathlib.Core.List.{List, [], ◌∷◌}
use Prim.Native.Nat.{ℕ, ◌+◌, ◌*◌}
use native.Mathlib.Omega.{arith}
use Rattle.std.specs.Prelude.{Result as Outcome, Ok, Err, IsErrAnd}
use Rattle.definition.specs.Syntax
use Rattle.definition.specs.Syntax.{TyVar, Ty, int, arrow, Expr, Ctx, on_r, Judgement, infer, check, subtype, leaf, ◌&◌, rule_number, children, var_bnd, tvar_bnd}
use Rattle.definition.specs.Run.{Out, done, M, ◌>>=◌, give}
use Rattle.definition.specs.Contexts.{k_var, k_tvar, ◌▹◌, right_of}
use Rattle.definition.specs.Types.{apply}
use Rattle.definition.specs.Rules as rules
use Rattle.definition.specs.Rules.{Result, Judge, ◌from◌, judge, ty_code, expr_code, parameter, chk_lam, chk_all, chk_sub, check_rule, branch}
use Rattle.layout.specs.Sizes.{INT}
use Rattle.layout.specs.Names.{tm, ty}
use Rattle.layout.specs.Denotes.{Den, written, Run}
use Rattle.layout.specs.declared.Span.{Span}
use Rattle.layout.specs.declared.State.{State}
use Rattle.layout.specs.declared.Entry.{Entry}
use Rattle.layout.specs.declared.Key.TheVariants.{Var}
use Rattle.layout.proofs.Places.{expr_code_lem}
use Rattle.layout.proofs.Denotes.{run_frame, int_den}
use Rattle.expressions.specs.declared.Abs.{Abs}
use Rattle.expressions.specs.Forms.{Shaped, IsAbs, AbsOf}
use Rattle.types.specs.Reading.{HeldAs, LeftOf, RightOf}
use Rattle.types.proofs.Held.{room_held, held_as}
use Rattle.contexts.specs.Build.{Space, SmallEntries, Pushed}
use Rattle.contexts.proofs.Build.{small_one, push_one}
use Rattle.contexts.specs.declared.Opened.{Opened}
use Rattle.judging.proofs.Entries.{entry_small, as_var}
use Rattle.judging.specs.declared.Answer.{Answer}
use Rattle.judging.specs.declared.Here.{Here}
use Rattle.judging.specs.declared.Rule.TheVariants as rule
use Rattle.judging.specs.declared.Stop.{Stop}
use Rattle.judging.specs.Asking.{here, EntryFrom, infer_ask, check_ask}
use Rattle.judging.specs.Ending.{Step, Judged, RunsJ, Fires}
use Rattle.judging.proofs.Steps.{not_done, stop_is}
use Rattle.judging.proofs.Asking.{check_asked}
use Rattle.rules.specs.declared.Body.{Body}
use Rattle.rules.specs.Built.{Built}
use Rattle.rules.specs.Opening.{ForallPre, Opens, Instances, opened, OpensOn}
use Rattle.rules.proofs.TypeForms.{IsArrow, is_arrow, IsForall, is_forall}
use Rattle.rules.proofs.Standing.{room_space, ref_small, check_shaped}
use Rattle.rules.specs.Taking.{Choice, lit_int_lem, lit_bool_lem, lam, all, sub, CheckPre}
use Rattle.rules.specs.Going.{TwoIn, GoesOrEnds, Nothing, Compared, PlainOut, kept, KeepOut}
use Rattle.rules.proofs.Choices.{chk_lam_lem, chk_all_lem, chk_sub_lem}
use Rattle.rules.proofs.Ways.{Way, den_on, otherwise, back, went, grown, WayOn, onward, there, turn, finish}
use Rattle.inference.specs.Rules.{relate, Related}
use Rattle.inference.proofs.Starting.{outcome, begin_check}
use Rattle.inference.proofs.Premise.{At, Starts, Premise, ask_infer, ask_check, Returns, returns}
use Rattle.inference.proofs.Related.{regroup}

-- ## The rule that was chosen

chosen_lam : {k c : ℕ} → Choice k c rule.ChkLam → (k ≡ 18) × (c ≡ 5)
chosen_lam (lit_int_lem r a b) = absurd (cc)
chosen_lam (lit_bool_lem r a b) = absurd (cc)
chosen_lam (lam r a b) = (a, b)
chosen_lam (all r a) = absurd (cc)
chosen_lam (sub r a b c d) = absurd (cc)

chosen_all : {k c : ℕ} → Choice k c rule.ChkAll → c ≡ 6
chosen_all (lit_int_lem r a b) = absurd (cc)
chosen_all (lit_bool_lem r a b) = absurd (cc)
chosen_all (lam r a b) = absurd (cc)
chosen_all (all r a) = a
chosen_all (sub r a b c d) = absurd (cc)

-- no other arm fits: the definition subsumes
chosen_sub : {k c : ℕ} (μ : rules.Here) (judge : Judge) (Γ : Ctx) (e : Expr) (B : Ty) → k ≡ expr_code e → c ≡ ty_code B → Choice k c rule.ChkSub
    → check_rule μ judge Γ e B ≡ chk_sub μ judge Γ e B
chosen_sub μ judge Γ e B i h (lit_int_lem r a b) = absurd (cc)
chosen_sub μ judge Γ e B i h (lit_bool_lem r a b) = absurd (cc)
chosen_sub μ judge Γ e B i h (lam r a b) = absurd (cc)
chosen_sub μ judge Γ e B i h (all r a) = absurd (cc)
chosen_sub μ judge Γ e B i h (sub r a b c d) =
    chk_sub_lem μ judge Γ e B (λ x y. a (i ∙ x) (h ∙ y)) (λ x y. b (i ∙ x) (h ∙ y)) (λ x y. c (i ∙ x) (h ∙ y)) (λ y. d (h ∙ y))

-- ## ChkLam

module _ (m : Here) {q w : List ℕ} {s : State} {g : Span} {ex r : ℕ} (pre : CheckPre q w s g ex r rule.ChkLam) where
  pub lam_shaped : Shaped q w ex 18
  lam_shaped = check_shaped pre (chosen_lam pre.choice).0

  pub lam_arrow : {j : Judgement} (k : At pre.rule j) → IsArrow (check_asked ex r k).T
  lam_arrow k = let v = check_asked ex r k in is_arrow v.T (sym (pre.tag.is v.T v.den) ∙ (chosen_lam pre.choice).1)

  lam_den : {j : Judgement} (k : At pre.rule j) → Den q w s.top r (arrow (lam_arrow k).A (lam_arrow k).B)
  lam_den k = rw (lam_arrow k).is at (check_asked ex r k).den

  pub lam_held : HeldAs q w s.top r 5
  lam_held = held_as (room_held pre.rule.room (check_asked ex r pre.rule.asks).den) pre.tag 5 (chosen_lam pre.choice).1

  module _ {l : Abs} (parts : AbsOf q ex l) {p c : ℕ} (lf : LeftOf q w s.top r p) (rt : RightOf q w s.top r c) where
    pub lam_parts : {j : Judgement} (k : At pre.rule j) → IsAbs q ex l (check_asked ex r k).e
    lam_parts k = parts.is (check_asked ex r k).at

    lam_left : {j : Judgement} (k : At pre.rule j) → Den q w s.top p (lam_arrow k).A
    lam_left k = (lf.is _ _ (lam_den k)).den

    pub lam_two : TwoIn q w s g l.ty p
    lam_two = let k = pre.rule.asks in
        record { two = record { spare = _; room = pre.rule.room; A = _; B = _; left = written (lam_parts k).type; right = lam_left k }; Γ = _; run = (check_asked ex r k).run }

    lam_way : {j : Judgement} (k : At pre.rule j)
        → Starts m q w s g j
        (parameter m.manner.compares_parameter (check_asked ex r k).Γ (lam_parts k).A (lam_arrow k).A
        >>= λ u. judge (here m) (check ((check_asked ex r k).Γ ▹ var_bnd (tm l.x) (lam_arrow k).A from here m) (lam_parts k).d (lam_arrow k).B)
        >>= λ r. give (Syntax.ChkLam, int, right_of (k_var (tm l.x)) r.1, r.2 & leaf))
    unfolding chk_lam
    lam_way k = begin_check m pre.rule (check_asked ex r k).is (lam_parts k).is (lam_arrow k).is
        (chk_lam_lem (here m) (judge (here m)) (check_asked ex r k).Γ ex (tm l.x) (lam_parts k).A (lam_arrow k).A (lam_arrow k).B (lam_parts k).d)

    module _ {w₁ : List ℕ} {y : Outcome State Stop} (o : Compared m q w w₁ s g l.ty p y) where
      lam_passes : {j : Judgement} (k : At pre.rule j)
          → GoesOrEnds q w w₁ s (λ v. v) Nothing y (parameter m.manner.compares_parameter (check_asked ex r k).Γ (lam_parts k).A (lam_arrow k).A s.left s.fresh)
      lam_passes k = o.passes _ _ _ (check_asked ex r k).run (written (lam_parts k).type) (lam_left k)

      pub lam_end : {e : Stop} {z : Step} → y ≡ Err e → IsErrAnd z (λ x. x ≡ e) → Fires m q w w₁ s g (check_ask ex r) z
      lam_end d h = rw (stop_is _ h) (record { run = λ j k. there (λ v. v) Nothing _ _ (lam_way k) (lam_passes k) d })

      module _ {s₁ : State} (e : y ≡ Ok s₁) where
        lam_onward : {j : Judgement} (k : At pre.rule j) → WayOn (λ v. v) Nothing _ _ (lam_way k) w₁ s₁
        lam_onward k = onward (λ v. v) Nothing _ _ (lam_way k) (lam_passes k) e

        pub lam_space : {n : Entry} → EntryFrom m (Var l.x) p n → Space w₁ s₁ g 1 × SmallEntries (n ∷ [])
        lam_space en = let k = pre.rule.asks in let u = lam_onward k in
            (room_space u.way.room g 1 (run_frame u.keep u.up (check_asked ex r k).run) (omega arith), small_one (entry_small en (ref_small u.way.room (den_on u.way (lam_left k)))))

        module _ {bound : Entry} (en : EntryFrom m (Var l.x) p bound) {w₂ : List ℕ} {v : Opened} (i : Pushed w₁ w₂ s₁ g (bound ∷ []) v) where
          pub lam_way₂ : {j : Judgement} (k : At pre.rule j)
              → Way q w w₂ s v.st leaf 0 (outcome m s j)
              (judge (here m) (check ((check_asked ex r k).Γ ▹ var_bnd (tm l.x) (lam_arrow k).A from here m) (lam_parts k).d (lam_arrow k).B)
              >>= λ r. give (Syntax.ChkLam, int, right_of (k_var (tm l.x)) r.1, r.2 & leaf))
          lam_way₂ k = grown (lam_onward k).way 0 i.grown (omega arith)

          pub lam_asks : Premise m pre.rule _ _ (λ j k. lam_way₂ k) v.g (check_ask l.body c)
          lam_asks = record {
            at = λ j k.
                let u = lam_onward k in
                let run₁ : Run q w₁ s₁.top g.at g.n (check_asked ex r k).Γ = run_frame u.keep u.up (check_asked ex r k).run in
                ask_check (push_one i run₁ (as_var en (den_on u.way (lam_left k)))) (lam_parts k).body (den_on (lam_way₂ k) (rt.is _ _ (lam_den k)).den);
          }

          module _ {w₃ : List ℕ} {z : Step} (call : Judged m q w₂ w₃ v.st v.g (check_ask l.body c) z) {t : Answer} (d : z ≡ Ok t) where
            pub lam_back : {j : Judgement} (k : At pre.rule j) → Returns lam_asks call k t
            lam_back k = returns lam_asks call d k

            pub lam_done : {w₄ : List ℕ} {y : Step} → KeepOut false w₃ w₄ t (k_var (tm l.x)) INT 19 1 y → Fires m q w w₄ s g (check_ask ex r) y
            unfolding rule_number children kept
            lam_done f = record {
              run = λ j k.
                  let b = lam_back k in
                  finish Syntax.ChkLam (f.finished q) b.run (int_den b.way.room.base) b.way (omega arith) refl refl (omega arith);
            }

-- ## ChkAll

-- the body of a Forall, with its name pushed: nothing was paid
record Opened-body (q w w₁ : List ℕ) (s : State) (g : Span) (o : Body) (b : TyVar) (Δ : Ctx) (T : Ty) : Type 0 where
  built : Built w w₁ s o.st (4 * g.n + 10)
  opens : Opens q w₁ s o b Δ T
  left : o.st.left ≡ s.left

opened_body : {q w w₁ : List ℕ} {s : State} {g : Span} {o : Body} {b : TyVar} {Δ : Ctx} {T : Ty} {O : Out Ty} → O ≡ done T s.left s.fresh
    → Instances q w w₁ s g b Δ (Ok o) O → Opened-body q w w₁ s g o b Δ T
opened_body {T = T} e (opened {T = U} b p) = let i : U ≡ T = cc in record { built = b; opens = rw i at p; left = cc }

module _ (m : Here) {q w : List ℕ} {s : State} {g : Span} {ex r : ℕ} (pre : CheckPre q w s g ex r rule.ChkAll) where
  pub all_parts : {j : Judgement} (k : At pre.rule j) → IsForall (check_asked ex r k).T
  all_parts k = let v = check_asked ex r k in is_forall v.T (sym (pre.tag.is v.T v.den) ∙ chosen_all pre.choice)

  pub all_pre : ForallPre q w s g r
  all_pre = let v = check_asked ex r pre.rule.asks in
      record { room = pre.rule.room; Γ = _; run = v.run; held = held_as (room_held pre.rule.room v.den) pre.tag 6 (chosen_all pre.choice) }

  module _ {w₁ : List ℕ} {o : Body} (i : OpensOn m q w w₁ s g r on_r (Ok o)) where
    all_opened : {j : Judgement} (k : At pre.rule j) → Opened-body q w w₁ s g o (all_parts k).a ((check_asked ex r k).Γ ▹ tvar_bnd (all_parts k).a from here m) (all_parts k).A
    all_opened k = let v = check_asked ex r k in opened_body refl (i.opens v.Γ (all_parts k).a (all_parts k).A v.run (rw (all_parts k).is at v.den))

    pub all_way : {j : Judgement} (k : At pre.rule j)
        → Way q w w₁ s o.st leaf 0 (outcome m s j)
        (judge (here m) (check ((check_asked ex r k).Γ ▹ tvar_bnd (all_parts k).a from here m) (check_asked ex r k).e (all_parts k).A)
        >>= λ r. give (Syntax.ChkAll, int, right_of (k_tvar (all_parts k).a) r.1, r.2 & leaf))
    unfolding chk_all
    all_way k =
        let v = check_asked ex r k in
        let p = all_parts k in
        let u = all_opened k in
        let b = u.built in
        let l = u.left in
        let f = u.opens.fresh in
        went (begin_check m pre.rule v.is refl p.is (chk_all_lem (here m) (judge (here m)) v.Γ v.e p.a p.A)) o.st 0 b.keep b.up b.low l
        (omega (arith, b.built)) (omega (arith, pre.rule.names)) (rw (l, f) refl)

    pub all_asks : Premise m pre.rule _ _ (λ j k. all_way k) o.g (check_ask ex o.ty)
    all_asks = record { at = λ j k. ask_check (all_opened k).opens.run (check_asked ex r k).at (all_opened k).opens.den }

    module _ {w₂ : List ℕ} {z : Step} (call : Judged m q w₁ w₂ o.st o.g (check_ask ex o.ty) z) {t : Answer} (d : z ≡ Ok t) where
      pub all_back : {j : Judgement} (k : At pre.rule j) → Returns all_asks call k t
      all_back k = returns all_asks call d k

      pub all_done : {w₃ : List ℕ} {y : Step} → KeepOut false w₂ w₃ t (k_tvar (ty o.b)) INT 20 1 y → Fires m q w w₃ s g (check_ask ex r) y
      unfolding rule_number children kept
      all_done f = record {
        run = λ j k.
            let b = all_back k in
            finish Syntax.ChkAll (rw (all_opened k).opens.name at (f.finished q)) b.run (int_den b.way.room.base) b.way (omega arith) refl refl (omega arith);
      }

-- ## ChkSub

module _ (m : Here) {q w : List ℕ} {s : State} {g : Span} {ex r : ℕ} (pre : CheckPre q w s g ex r rule.ChkSub) where
  pub sub_way : {j : Judgement} (k : At pre.rule j)
      → let v = check_asked ex r k in
      Starts m q w s g j
      (judge (here m) (infer v.Γ v.e) >>= λ r₁. apply r₁.1 r₁.0 >>= λ A. apply r₁.1 v.T
      >>= λ B. judge (here m) (subtype r₁.1 A B) >>= λ r₂. give (Syntax.ChkSub, int, r₂.1, r₁.2 & r₂.2 & leaf))
  unfolding chk_sub
  sub_way k =
      let v = check_asked ex r k in
      begin_check m pre.rule v.is refl refl (chosen_sub (here m) (judge (here m)) v.Γ v.e v.T
      (sym pre.code ∙ (expr_code_lem v.at).is) (pre.tag.is v.T v.den) pre.choice)

  pub sub_asks : Premise m pre.rule _ _ (λ j k. sub_way k) g (infer_ask ex)
  sub_asks = record { at = λ j k. let v = check_asked ex r k in ask_infer v.run v.at }

  module _ {w₁ : List ℕ} {z : Step} (call : Judged m q w w₁ s g (infer_ask ex) z) {u : Answer} (d : z ≡ Ok u) where
    pub sub_back : {j : Judgement} (k : At pre.rule j) → Returns sub_asks call k u
    sub_back k = returns sub_asks call d k

    -- the type that it is checked against is denoted still
    sub_type : {j : Judgement} (k : At pre.rule j) → Den q w₁ u.st.top r (check_asked ex r k).T
    sub_type k = (sub_back k).stays (check_asked ex r k).den

    pub sub_two : TwoIn q w₁ u.st u.g u.ty r
    sub_two = let k = pre.rule.asks in let b = sub_back k in
        record { two = record { spare = _; room = b.way.room; A = _; B = _; left = b.den; right = sub_type k }; Γ = _; run = b.run }

    abbrev sub_relates : {j : Judgement} (k : At pre.rule j) → M Result
    sub_relates k = relate m true (sub_back k).Δ (sub_back k).C (check_asked ex r k).T

    module _ {w₂ : List ℕ} {y : Step} (call₂ : Related m true q w₁ w₂ u.st u.g u.ty r y) where
      sub_way₂ : {j : Judgement} (k : At pre.rule j)
          → Way q w w₁ s u.st ((sub_back k).t & leaf) (4 * u.g.n + 4) (outcome m s j)
          (sub_relates k >>= λ r₂. give (Syntax.ChkSub, int, r₂.1, (sub_back k).t & r₂.2 & leaf))
      unfolding branch
      sub_way₂ k = turn (sub_back k).way (regroup _ _ _ _)

      sub_runs : {j : Judgement} (k : At pre.rule j) → RunsJ q w₁ w₂ u.st y (sub_relates k u.st.left u.st.fresh)
      sub_runs k = let b = sub_back k in call₂.run _ _ _ b.run b.den (sub_type k)

      pub sub_unless : {e : Stop} {o : Step} → y ≡ Err e → IsErrAnd o (λ x. x ≡ e) → Fires m q w w₂ s g (check_ask ex r) o
      sub_unless i h = rw (stop_is _ h ∙ sym i) (record { run = λ j k. otherwise _ _ (sub_way₂ k) (sub_runs k) (not_done i) })

      pub sub_done : {v : Answer} {o : Step} → y ≡ Ok v → PlainOut v.st v.g INT 21 2 o → Fires m q w w₂ s g (check_ask ex r) o
      unfolding rule_number children
      sub_done i fin = record {
        run = λ j k.
            let b = back _ _ (sub_way₂ k) (sub_runs k) i in
            finish Syntax.ChkSub (fin.finished _ w₂) b.run (int_den b.way.room.base) b.way (omega arith) refl refl (omega arith);
      }
