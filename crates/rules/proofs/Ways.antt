-- A rule on its way: what is still to be done, with the definition's own words for it.
use mathlib.Core.Path.{◌≡◌, refl, sym, ◌∙◌, ap}
use mathlib.Core.List.{List}
use Prim.Native.Nat.{ℕ, ◌+◌, ◌*◌, ◌≤◌, ◌<◌}
use native.Mathlib.Nat.{le_trans, le_refl}
use native.Mathlib.Omega.{arith}
use Rattle.std.specs.Prelude.{Result as Outcome, Ok, Err}
use Rattle.definition.specs.Syntax.{Ty, Ctx, Judgement, Rule, rule_number, Tree, Trees, leaf, ◌&◌, children}
use Rattle.definition.specs.Run.{Out, done, stop, M, ◌>>=◌, give}
use Rattle.definition.specs.Rules.{Fired, Result}
use Rattle.definition.specs.Types.{apply}
use Rattle.laws.proofs.Steps.{bind_done, bind_fail, bind_stop}
use Rattle.layout.specs.Sizes.{CAP}
use Rattle.layout.specs.Words.{Keep}
use Rattle.layout.specs.Denotes.{Den, Run}
use Rattle.layout.specs.Room.{Room}
use Rattle.layout.specs.declared.Span.{Span}
use Rattle.layout.specs.declared.State.{State}
use Rattle.layout.specs.declared.Made.{Made}
use Rattle.layout.specs.declared.Spent as layout
use Rattle.layout.proofs.Words.{keep_less, keep_trans}
use Rattle.layout.proofs.Places.{expr_code_lem}
use Rattle.layout.proofs.Denotes.{den_frame, run_frame}
use Rattle.contexts.specs.Build.{Grown}
use Rattle.contexts.specs.declared.Opened.{Opened}
use Rattle.substitution.specs.Passing.{Passed}
use Rattle.substitution.specs.Calls.{ApplyPre, Applied}
use Rattle.substitution.proofs.Passing as sub
use Rattle.judging.specs.declared.Answer.{Answer}
use Rattle.judging.specs.declared.Stop.{Stop}
use Rattle.judging.specs.declared.Stop.TheVariants.{Spent}
use Rattle.judging.specs.Asking.{Asks, infer_ask, check_ask, app_ask, sub_ask, JudgePre}
use Rattle.judging.specs.Ending.{Step, RunsJ, RunsR}
use Rattle.judging.proofs.Asking.{small_infer, small_check, small_app, small_sub, infer_asked, check_asked, app_asked, sub_asked}
use Rattle.judging.proofs.Nodes.{◌+++◌, nodes_frame, nodes_join}
use Rattle.judging.proofs.Steps.{NotDone, else_ends, came}
use Rattle.judging.proofs.Chain.{Sofar, begin, built, stopped, refuses, fires, room_on, room_ready}
use Rattle.rules.proofs.Standing.{ref_small}
use Rattle.rules.specs.Going.{GoesOrEnds, goes, fails, stops, Finished}

-- from a rule's start at w and s to w₁ and s₁: the trees so far, room for k words, and K to be done, all that the rule's outcome R is
pub record Way (q w w₁ : List ℕ) (s s₁ : State) (ts : Trees) (k : ℕ) (R : Out Fired) (K : M Fired) : Type 0 where
  pub so : Sofar q w w₁ s s₁ ts
  pub room : Room q w₁ s₁ k
  pub is : R ≡ K s₁.left s₁.fresh

pub start : {q w : List ℕ} {s : State} {k : ℕ} {R : Out Fired} {K : M Fired} → Room q w s k → R ≡ K s.left s.fresh → Way q w w s s leaf k R K
start r e = record { so = begin; room = r; is = e }

-- ## What a judgement that is asked requires

module _ {q w : List ℕ} {s : State} {g : Span} {k : ℕ} {j : Judgement} (r : Room q w s k) where
  pub asks_infer : {p : ℕ} → Asks q w s.top g (infer_ask p) j → JudgePre q w s g (infer_ask p)
  asks_infer {p} x = let v = infer_asked p x in record { ready = room_ready g r; small = small_infer _ (expr_code_lem v.at).inside; j = _; asks = x }

  pub asks_check : {p b : ℕ} → Asks q w s.top g (check_ask p b) j → JudgePre q w s g (check_ask p b)
  asks_check {p} {b} x =
      let v = check_asked p b x in
      record { ready = room_ready g r; small = small_check _ _ (expr_code_lem v.at).inside (ref_small r v.den); j = _; asks = x }

  pub asks_app : {a p : ℕ} → Asks q w s.top g (app_ask a p) j → JudgePre q w s g (app_ask a p)
  asks_app {a} {p} x =
      let v = app_asked a p x in
      record { ready = room_ready g r; small = small_app _ _ (ref_small r v.den) (expr_code_lem v.at).inside; j = _; asks = x }

  pub asks_sub : {a b : ℕ} → Asks q w s.top g (sub_ask a b) j → JudgePre q w s g (sub_ask a b)
  asks_sub {a} {b} x =
      let v = sub_asked a b x in
      record { ready = room_ready g r; small = small_sub (ref_small r v.left) (ref_small r v.right); j = _; asks = x }

-- apply_ctx_type for what came back
pub apply_pre : {q w : List ℕ} {s : State} {g : Span} {k r : ℕ} {Γ : Ctx} {A : Ty} → Room q w s k → Run q w s.top g.at g.n Γ → Den q w s.top r A
    → ApplyPre q w s g r
apply_pre r n d = record { spare = _; room = r; ctx = _; run = n; type = _; den = d }

-- an answer whose number and children are known
numbered : {a : Answer} {x c : ℕ} → a.rule ≡ x → a.kids ≡ c → record { st = a.st; g = a.g; ty = a.ty; rule = x; kids = c; charge = a.charge } ≡ a
numbered e f = rw (← e, ← f) refl

-- a step between went on, with v
pub record Got {X Y : Type 0} (w w' : List ℕ) (s : State) (st : Y → State) (D : X → Y → Type 0) (O : Out X) (v : Y) : Type 0 where
  pub x : X
  pub is : O ≡ done x (st v).left s.fresh
  pub passed : Passed w w' s (st v) 0
  pub says : D x v

pub got : {X Y : Type 0} {q w w' : List ℕ} {s : State} {st : Y → State} {D : X → Y → Type 0} {O : Out X} {z : Outcome Y Stop} {v : Y}
    → GoesOrEnds q w w' s st D z O → z ≡ Ok v → Got w w' s st D O v
got {X} {Y} {q} {w} {w'} {s} {st} {D} {O} {z} {v} h e = go (rw e at h)
  where
    go : {U : Out X} → GoesOrEnds q w w' s st D (Ok v) U → Got w w' s st D U v
    go (goes {x = x} p d) = record { x = x; is = refl; passed = p; says = d }

module _ {q w w₁ : List ℕ} {s s₁ : State} {ts : Trees} {k : ℕ} {R : Out Fired} where
  -- ## What stood at the start stands still

  pub den_on : {K : M Fired} {a : ℕ} {A : Ty} → Way q w w₁ s s₁ ts k R K → Den q w s.top a A → Den q w₁ s₁.top a A
  den_on y d = den_frame y.so.keep y.so.up d

  -- ## A judgement, or what ends as one

  module _ (n : M Result) (f : Result → M Fired) (y : Way q w w₁ s s₁ ts k R (n >>= f)) {w₂ : List ℕ} {z : Step}
      (call : RunsJ q w₁ w₂ s₁ z (n s₁.left s₁.fresh)) where
    kept : Keep s.top s.low w w₂
    kept = keep_trans y.so.keep (keep_less y.so.up y.so.down call.keep)

    -- it did not end well
    pub otherwise : NotDone z → RunsR q w w₂ s z R
    unfolding ◌>>=◌
    otherwise nd = rw y.is (record { keep = kept; ends = else_ends f call.ends nd })

    -- it came back
    pub record Back (r : Answer) : Type 0 where
      pub C : Ty
      pub Δ : Ctx
      pub t : Tree
      pub way : Way q w w₂ s r.st (ts +++ (t & leaf)) (4 * r.g.n + 4) R (f (C, Δ, t))
      pub run : Run q w₂ r.st.top r.g.at r.g.n Δ
      pub den : Den q w₂ r.st.top r.ty C
      pub stays : {a : ℕ} {A : Ty} → Den q w₁ s₁.top a A → Den q w₂ r.st.top a A
      pub less : r.st.left ≤ s₁.left

    pub back : {r : Answer} → z ≡ Ok r → Back r
    back d =
        let c = came call.ends d in
        let x = c.land in
        let kp = call.keep in
        record {
          C = c.C;
          Δ = c.Δ;
          t = c.t;
          way = record {
            so = record {
              keep = kept;
              up = le_trans y.so.up x.up;
              down = le_trans x.down y.so.down;
              less = le_trans x.less y.so.less;
              nodes = nodes_join (nodes_frame kp x.up (λ j u v. kp.above j u) y.so.nodes) x.nodes;
            };
            room = x.room;
            is = y.is ∙ bind_done n f _ _ c.is;
          };
          run = x.run;
          den = x.den;
          stays = λ d. den_frame kp x.up d;
          less = x.less;
        }

  -- ## The same in other words

  pub turn : {K K' : M Fired} → Way q w w₁ s s₁ ts k R K → ((l n : ℕ) → K l n ≡ K' l n) → Way q w w₁ s s₁ ts k R K'
  turn y e = record { so = y.so; room = y.room; is = y.is ∙ e _ _ }

  -- ## Words are built, fresh names taken

  pub went : {K K' : M Fired} → Way q w w₁ s s₁ ts k R K → (s₂ : State) (k' : ℕ) {w₂ : List ℕ} → Keep s₁.top s₁.low w₁ w₂ → s₁.top ≤ s₂.top
      → s₂.low ≡ s₁.low → s₂.left ≡ s₁.left → s₂.top + k' ≤ s₁.top + k → s₂.fresh + 2 * s₂.left ≤ CAP
      → K s₁.left s₁.fresh ≡ K' s₂.left s₂.fresh → Way q w w₂ s s₂ ts k' R K'
  went y s₂ k' kp up lo le ft nm e = record {
    so = built s₂ y.so kp up lo (omega arith);
    room = room_on s₂ k' y.room kp up (omega arith) (omega (arith, y.room.fits)) nm;
    is = y.is ∙ e;
  }

  -- a context was built
  pub grown : {K : M Fired} {n : ℕ} → Way q w w₁ s s₁ ts k R K → (k' : ℕ) {w₂ : List ℕ} {o : Opened} → Grown w₁ w₂ s₁ n o → 4 * n + k' ≤ k
      → Way q w w₂ s o.st ts k' R K
  grown {K} {n} y k' {w₂} {o} h le =
      let p = h.past in
      let a = p.top in
      let b = p.left in
      let c = p.fresh in
      went y o.st k' (keep_less (le_refl _) (omega (arith, y.room.fits)) h.keep) (omega arith) p.low p.left (omega arith)
      (omega (arith, y.room.names)) (rw (b, c) refl)

  -- ## Types are made or compared

  module _ {X : Type 0} (n : M X) (f : X → M Fired) (y : Way q w w₁ s s₁ ts k R (n >>= f)) where
    -- units were paid
    pub passed : {w₂ : List ℕ} (s₂ : State) (k' : ℕ) {c : ℕ} {x : X} → Passed w₁ w₂ s₁ s₂ c → k' ≤ k + 28 * c → n s₁.left s₁.fresh ≡ done x s₂.left s₁.fresh
        → Way q w w₂ s s₂ ts k' R (f x)
    passed {w₂} s₂ k' {c} {x} p le e =
        let fr = p.fresh in
        record {
          so = built s₂ y.so p.keep p.up p.low (omega (arith, p.paid));
          room = room_on s₂ k' y.room p.keep p.up (omega (arith, p.low)) (omega (arith, p.low, p.paid, p.built, y.room.fits))
              (omega (arith, p.paid, y.room.names));
          is = y.is ∙ bind_done n f _ _ (e ∙ ap (λ (i : ℕ). done x s₂.left i) (sym fr));
        }

    -- the next charge would pass the budget
    pub spends : {w₂ : List ℕ} → Keep s₁.top s₁.low w₁ w₂ → n s₁.left s₁.fresh ≡ stop → RunsR q w w₂ s (Err Spent) R
    spends kp e = stopped (built s₁ y.so kp (le_refl _) refl (le_refl _)) R (y.is ∙ bind_stop n f _ _ e)

  -- the context was applied
  module _ {Γ : Ctx} {A : Ty} (f : Ty → M Fired) (y : Way q w w₁ s s₁ ts k R (apply Γ A >>= f)) {g : Span} {r : ℕ} {w₂ : List ℕ} {z : Outcome Made layout.Spent}
      (ap : Applied q w₁ w₂ s₁ g r z) (n : Run q w₁ s₁.top g.at g.n Γ) (d : Den q w₁ s₁.top r A) where
    pub apply_spent : {x : layout.Spent} → z ≡ Err x → RunsR q w w₂ s (Err Spent) R
    apply_spent e = let o = sub.ended (ap.makes Γ n A d) e in spends (apply Γ A) f y o.keep o.is

    pub record AppliedTo (s₂ : State) (t : ℕ) : Type 0 where
      pub T : Ty
      pub way : Way q w w₂ s s₂ ts (k + 28) R (f T)
      pub run : Run q w₂ s₂.top g.at g.n Γ
      pub den : Den q w₂ s₂.top t T
      pub less : s₂.left ≤ s₁.left

    pub apply_done : {m : Made} → z ≡ Ok m → AppliedTo m.st m.ty
    apply_done {m} e =
        let o = sub.reached (ap.makes Γ n A d) e in
        let p = o.passed in
        record {
          T = o.type;
          way = passed (apply Γ A) f y m.st (k + 28) p (omega arith) o.is;
          run = run_frame p.keep p.up n;
          den = o.den;
          less = omega (arith, p.paid);
        }

  -- types were made or compared, as the definition's n says
  module _ {X Y : Type 0} (st : Y → State) (D : X → Y → Type 0) (n : M X) (f : X → M Fired) (y : Way q w w₁ s s₁ ts k R (n >>= f)) where
    pub record WayOn (w₂ : List ℕ) (v : Y) : Type 0 where
      pub x : X
      pub says : D x v
      pub way : Way q w w₂ s (st v) ts k R (f x)
      pub keep : Keep s₁.top s₁.low w₁ w₂
      pub up : s₁.top ≤ (st v).top
      pub less : (st v).left ≤ s₁.left

    pub onward : {w₂ : List ℕ} {z : Outcome Y Stop} {v : Y} → GoesOrEnds q w₁ w₂ s₁ st D z (n s₁.left s₁.fresh) → z ≡ Ok v → WayOn w₂ v
    onward {v = v} h e =
        let o = got h e in
        let p = o.passed in
        record { x = o.x; says = o.says; way = passed n f y (st v) k p (omega arith) o.is; keep = p.keep; up = p.up; less = omega (arith, p.paid) }

    -- the rule ends there
    pub there : {w₂ : List ℕ} {z : Outcome Y Stop} {e : Stop} → GoesOrEnds q w₁ w₂ s₁ st D z (n s₁.left s₁.fresh) → z ≡ Err e → RunsR q w w₂ s (Err e) R
    there {w₂} {z} {e} h i = go refl (rw i at h)
      where
        go : {O : Out X} {v : Stop} → n s₁.left s₁.fresh ≡ O → GoesOrEnds q w₁ w₂ s₁ st D (Err v) O → RunsR q w w₂ s (Err v) R
        go o (fails kp x) = refuses (built s₁ y.so kp (le_refl _) refl (le_refl _)) x R (y.is ∙ bind_fail n f _ _ o)
        go o (stops kp) = spends n f y kp o

  -- ## The end

  pub finish : {g : Span} {ty more rule kids : ℕ} {F : Ctx → Ctx} {G : Ty → Ty} (r : Rule) {w₂ : List ℕ} {z : Step}
      → Finished q w₁ w₂ s₁ g ty more F G rule kids z → {C : Ty} {Δ : Ctx} → Run q w₁ s₁.top g.at g.n Δ → Den q w₁ s₁.top ty C
      → Way q w w₁ s s₁ ts k R (give (r, G C, F Δ, ts)) → 4 * g.n + more + 4 ≤ k → rule ≡ rule_number r → kids ≡ children ts → kids < 5
      → RunsR q w w₂ s z R
  unfolding give
  finish r {w₂} h n d y le e c few =
      let a = h.answer in
      let lo = h.low in
      let lf = h.left in
      let fr = h.fresh in
      let so : Sofar q w w₂ s a.st ts = built a.st y.so h.keep h.up h.low (omega arith) in
      let rm : Room q w₂ a.st 4 =
      room_on a.st 4 y.room h.keep h.up (omega arith) (omega (arith, h.most, y.room.fits)) (omega (arith, y.room.names)) in
      let o = fires a.st a.g a.ty r so rm (omega arith) (h.run n) (h.den d) R (y.is ∙ rw (← lf, ← fr) refl) in
      rw (h.is, ← numbered {a = a} (h.rule_is ∙ e) (h.kids_is ∙ c)) o
