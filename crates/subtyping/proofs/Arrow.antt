-- SubArr: two judgements, and no context applied between them.
use mathlib.Core.Path.{◌≡◌, refl, ◌∙◌}
use mathlib.Core.Bool.{false}
use mathlib.Core.List.{List}
use Prim.Native.Nat.{ℕ, ◌+◌, ◌*◌, ◌<◌}
use native.Mathlib.Omega.{arith}
use Rattle.std.specs.Prelude.{Result, Ok, Err}
use Rattle.definition.specs.Syntax
use Rattle.definition.specs.Syntax.{Ty, int, arrow, Judgement, subtype, rule_number, leaf, ◌&◌, children}
use Rattle.definition.specs.Run.{and_then, give, ◌>>=◌}
use Rattle.definition.specs.Rules.{sub_arr, rule, judge, ty_code, branch}
use Rattle.layout.specs.Sizes.{INT}
use Rattle.layout.specs.Denotes.{Den}
use Rattle.layout.specs.declared.Span.{Span}
use Rattle.layout.specs.declared.State.{State}
use Rattle.layout.proofs.Denotes.{den_frame, run_frame}
use Rattle.types.specs.Reading.{HeldAs, LeftOf, RightOf}
use Rattle.judging.specs.Asking.{here, Asks, as_sub, sub_ask, JudgePre}
use Rattle.judging.specs.declared.Answer.{Answer}
use Rattle.judging.specs.declared.Here.{Here}
use Rattle.judging.specs.declared.Stop.{Stop}
use Rattle.judging.proofs.Chain.{Sofar, begin, gave, on}
use Rattle.judging.proofs.Steps.{NotDone, Came}
use Rattle.judging.specs.Ending.{Step, Judged, Fires}
use Rattle.rules.proofs.Standing.{held_is}
use Rattle.rules.proofs.Premises.{else_fires, then_done, through_ends}
use Rattle.rules.specs.declared.Both.{Both}
use Rattle.rules.specs.Going.{PlainOut, TwoIn, GoesOrEnds, Dens, apply_both, AppliedBoth}
use Rattle.rules.proofs.Ways.{Way, asks_sub, WayOn, onward, there}
use Rattle.subtyping.specs.Arms.{Comes, ArmFits, fits_arr, ArmPre}
use Rattle.subtyping.specs.declared.Arm.TheVariants as arm
use Rattle.subtyping.proofs.Rules.{askd, fits, comes}

-- ## Its types

record Halves (A B : Ty) : Type 0 where
  A₁ : Ty
  A₂ : Ty
  B₁ : Ty
  B₂ : Ty
  left : A ≡ arrow A₁ A₂
  right : B ≡ arrow B₁ B₂
  comes_to : Comes A B (λ h judge Γ. sub_arr h judge Γ (A₁, A₂) (B₁, B₂))

halves : {A B : Ty} → ArmFits A B arm.Arr → Halves A B
halves (fits_arr {A₁ = A₁} {A₂ = A₂} {B₁ = B₁} {B₂ = B₂} e f c) =
    record { A₁ = A₁; A₂ = A₂; B₁ = B₁; B₂ = B₂; left = e; right = f; comes_to = c }

module _ {q w : List ℕ} {s : State} {g : Span} {a b : ℕ} (pre : ArmPre q w s g a b arm.Arr) where
  half : {j : Judgement} (k : Asks q w s.top g (sub_ask a b) j) → Halves (askd pre k).A (askd pre k).B
  half k = halves (fits pre k)

  left : {j : Judgement} (k : Asks q w s.top g (sub_ask a b) j) → Den q w s.top a (arrow (half k).A₁ (half k).A₂)
  left k = rw (half k).left at (askd pre k).left

  right : {j : Judgement} (k : Asks q w s.top g (sub_ask a b) j) → Den q w s.top b (arrow (half k).B₁ (half k).B₂)
  right k = rw (half k).right at (askd pre k).right

  pub arr_left : HeldAs q w s.top a 5
  unfolding ty_code
  arr_left = held_is pre.pre.room (left pre.pre.asks)

  pub arr_right : HeldAs q w s.top b 5
  unfolding ty_code
  arr_right = held_is pre.pre.room (right pre.pre.asks)

-- it is asked, and the halves of its types are read; t is the cycle's measure
pub record Halved (t : ℕ) : Type 0 where
  pub m : Here
  pub q : List ℕ
  pub w : List ℕ
  pub s : State
  pub g : Span
  pub a : ℕ
  pub b : ℕ
  pub a₁ : ℕ
  pub a₂ : ℕ
  pub b₁ : ℕ
  pub b₂ : ℕ
  pub pre : ArmPre q w s g a b arm.Arr
  pub falls : 3 * s.left + 1 ≡ t
  pub left_a : LeftOf q w s.top a a₁
  pub right_a : RightOf q w s.top a a₂
  pub left_b : LeftOf q w s.top b b₁
  pub right_b : RightOf q w s.top b b₂

module _ {t : ℕ} (h : Halved t) where
  -- how the rule may be asked, and how it ends
  abbrev At : Judgement → Type 0
  At j = Asks h.q h.w h.s.top h.g (sub_ask h.a h.b) j

  abbrev Ends : List ℕ → Step → Type 0
  Ends w' z = Fires h.m h.q h.w w' h.s h.g (sub_ask h.a h.b) z

  abbrev parts : {j : Judgement} (k : At j) → Halves (askd h.pre k).A (askd h.pre k).B
  parts k = half h.pre k

  -- ## The left halves, exchanged

  abbrev lefts : {j : Judgement} → At j → Judgement
  lefts k = subtype (askd h.pre k).Γ (parts k).B₁ (parts k).A₁

  asks₁ : {j : Judgement} (k : At j) → Asks h.q h.w h.s.top h.g (sub_ask h.b₁ h.a₁) (lefts k)
  asks₁ k = as_sub refl refl (askd h.pre k).run (h.left_b.is _ _ (right h.pre k)).den (h.left_a.is _ _ (left h.pre k)).den

  pub arr_first : (3 * h.s.left < t) × JudgePre h.q h.w h.s h.g (sub_ask h.b₁ h.a₁)
  arr_first = (omega (arith, h.falls), asks_sub h.pre.pre.room (asks₁ h.pre.pre.asks))

  says₁ : {j : Judgement} (k : At j) → rule (here h.m) (judge (here h.m)) j h.s.left h.s.fresh
      ≡ and_then (judge (here h.m) (lefts k) h.s.left h.s.fresh)
      (λ r l n. and_then (judge (here h.m) (subtype r.1 (parts k).A₂ (parts k).B₂) l n) (λ u. give (Syntax.SubArr, int, u.1, r.2 & u.2 & leaf)))
  unfolding sub_arr ◌>>=◌
  says₁ k = comes h.pre h.m k (parts k).comes_to

  module _ {w₁ : List ℕ} {z : Step} (call : Judged h.m h.q h.w w₁ h.s h.g (sub_ask h.b₁ h.a₁) z) where
    pub arr_else₁ : NotDone z → Ends w₁ z
    arr_else₁ nd = else_fires (λ j k. record { ts = leaf; so = begin; i = _; asks = asks₁ k; next = _; says = says₁ k }) call nd

    -- ## The right halves, as they were

    module _ {r : Answer} (d : z ≡ Ok r) where
      came : {j : Judgement} (k : At j) → Came h.q w₁ h.s r (judge (here h.m) (lefts k) h.s.left h.s.fresh)
      came k = gave begin call (asks₁ k) d

      so : {j : Judgement} (k : At j) → Sofar h.q h.w w₁ h.s r.st ((came k).t & leaf)
      so k = on begin call (asks₁ k) (came k)

      stays : {n : ℕ} {T : Ty} → Den h.q h.w h.s.top n T → Den h.q w₁ r.st.top n T
      stays e = let x = so h.pre.pre.asks in den_frame x.keep x.up e

      left₂ : {j : Judgement} (k : At j) → Den h.q w₁ r.st.top h.a₂ (parts k).A₂
      left₂ k = stays (h.right_a.is _ _ (left h.pre k)).den

      right₂ : {j : Judgement} (k : At j) → Den h.q w₁ r.st.top h.b₂ (parts k).B₂
      right₂ k = stays (h.right_b.is _ _ (right h.pre k)).den

      pub arr_two : TwoIn h.q w₁ r.st r.g h.a₂ h.b₂
      arr_two = let k = h.pre.pre.asks in let x = (came k).land in
          record { two = record { spare = _; room = x.room; A = _; B = _; left = left₂ k; right = right₂ k }; Γ = _; run = x.run }

      way : {j : Judgement} (k : At j)
          → Way h.q h.w w₁ h.s r.st ((came k).t & leaf) (4 * r.g.n + 4) (rule (here h.m) (judge (here h.m)) j h.s.left h.s.fresh)
          (apply_both false (came k).Δ (parts k).A₂ (parts k).B₂ >>= λ T. judge (here h.m) (subtype (came k).Δ T.0 T.1)
          >>= λ u. give (Syntax.SubArr, int, u.1, (came k).t & u.2 & leaf))
      unfolding branch ◌>>=◌ and_then give
      way k = record { so = so k; room = (came k).land.room; is = says₁ k ∙ then_done _ (came k).is }

      module _ {w₂ : List ℕ} {v : Result Both Stop} (mid : AppliedBoth false h.q w₁ w₂ r.st r.g h.a₂ h.b₂ v) where
        passes : {j : Judgement} (k : At j) → GoesOrEnds h.q w₁ w₂ r.st (λ y. y.st) (Dens h.q w₂) v
            (apply_both false (came k).Δ (parts k).A₂ (parts k).B₂ r.st.left r.st.fresh)
        passes k = mid.passes _ _ _ (came k).land.run (left₂ k) (right₂ k)

        pub arr_end : {x : Stop} → v ≡ Err x → Ends w₂ (Err x)
        arr_end e = record { run = λ j k. there (λ y. y.st) (Dens h.q w₂) _ _ (way k) (passes k) e }

        module _ {b : Both} (e : v ≡ Ok b) where
          next : {j : Judgement} (k : At j) → WayOn (λ y. y.st) (Dens h.q w₂) _ _ (way k) w₂ b
          next k = onward (λ y. y.st) (Dens h.q w₂) _ _ (way k) (passes k) e

          asks₂ : {j : Judgement} (k : At j) → Asks h.q w₂ b.st.top r.g (sub_ask b.a b.b) (subtype (came k).Δ (next k).x.0 (next k).x.1)
          asks₂ k = let x = next k in as_sub refl refl (run_frame x.keep x.up (came k).land.run) x.says.0 x.says.1

          pub arr_second : (3 * b.st.left < t) × JudgePre h.q w₂ b.st r.g (sub_ask b.a b.b)
          arr_second = let k = h.pre.pre.asks in let x = (next k).way in (omega (arith, h.falls, x.so.less), asks_sub x.room (asks₂ k))

          module _ {w₃ : List ℕ} {y : Step} (call₂ : Judged h.m h.q w₂ w₃ b.st r.g (sub_ask b.a b.b) y) where
            pub arr_else₂ : NotDone y → Ends w₃ y
            unfolding ◌>>=◌
            arr_else₂ nd =
                else_fires (λ j k. let x = (next k).way in record { ts = _; so = x.so; i = _; asks = asks₂ k; next = _; says = x.is }) call₂ nd

            pub arr_done : {u : Answer} {x : Step} → y ≡ Ok u → PlainOut u.st u.g INT 25 2 x → Ends w₃ x
            unfolding rule_number children ◌>>=◌
            arr_done d₂ th = record {
              run = λ j k.
                  let x = (next k).way in
                  through_ends x.so call₂ (asks₂ k) d₂ Syntax.SubArr refl (λ t. refl) (omega arith) th _ x.is;
            }
