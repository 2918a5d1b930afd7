-- InstLArr and InstRArr, over the side: two judgements, with the context applied between them.
use mathlib.Core.Path.{◌≡◌, refl, sym, ◌∙◌, ap}
use mathlib.Core.List.{List}
use Prim.Native.Nat.{ℕ, suc, ◌+◌, ◌*◌, ◌<◌}
use native.Mathlib.Nat.{le_refl}
use native.Mathlib.Omega.{arith}
use Rattle.std.specs.Prelude.{Result, Ok, Err}
use Rattle.definition.specs.Syntax as syntax
use Rattle.definition.specs.Syntax.{Ty, int, etvar, arrow, Side, Judgement, inst, rule_number, leaf, ◌&◌, children}
use Rattle.definition.specs.Run.{Out, done, and_then, give}
use Rattle.definition.specs.Types.{apply}
use Rattle.definition.specs.Rules.{Fired, other, inst_arr, split, rule, judge}
use Rattle.layout.specs.Sizes.{INT}
use Rattle.layout.specs.Denotes.{Den}
use Rattle.layout.specs.Room.{Room}
use Rattle.layout.specs.States.{fresh_name}
use Rattle.layout.specs.declared.Made.{Made}
use Rattle.layout.specs.declared.Span.{Span}
use Rattle.layout.specs.declared.Spent as layout
use Rattle.layout.specs.declared.State.{State}
use Rattle.layout.specs.declared.TyVar.{TyVar}
use Rattle.layout.proofs.Denotes.{den_frame, run_frame}
use Rattle.types.specs.Reading.{HeldAs, HeldNamed, Named, LeftOf, RightOf}
use Rattle.substitution.specs.Passing.{Passed, Makes}
use Rattle.substitution.specs.Calls.{ApplyPre, Applied}
use Rattle.substitution.proofs.Passing.{Reached, reached}
use Rattle.substitution.proofs.Passing as passing
use Rattle.judging.specs.Asking.{here, Asks, inst_ask, JudgePre}
use Rattle.judging.specs.Ending.{Step, Judged, Fires}
use Rattle.judging.specs.declared.Answer.{Answer}
use Rattle.judging.specs.declared.Here.{Here}
use Rattle.judging.specs.declared.Stop.TheVariants.{Spent}
use Rattle.judging.proofs.Asking.{InstAsked, inst_asked, asks_inst}
use Rattle.judging.proofs.Steps.{NotDone, Came}
use Rattle.judging.proofs.Chain.{Sofar, begin, built, gave, on, stopped}
use Rattle.rules.specs.Going.{PlainOut}
use Rattle.rules.specs.Parting.{Parts}
use Rattle.rules.specs.declared.Parted.{Parted}
use Rattle.rules.proofs.TypeForms.{IsArrow, is_arrow}
use Rattle.rules.proofs.Standing.{held_is, unknown_named, built_room, passed_built, built_on}
use Rattle.rules.proofs.Premises.{inst_pre, else_fires, then_done, then_stop, through_ends}
use Rattle.rules.proofs.Parting.{parts_built}
use Rattle.instantiation.specs.Sides.{FormPre}
use Rattle.instantiation.proofs.Equations.{arr_is}

module _ {q w : List ℕ} {s : State} {g : Span} {sd : Side} {a t : ℕ} (pre : FormPre sd q w s g a t 5) where
  askd : {j : Judgement} → Asks q w s.top g (inst_ask sd a t) j → InstAsked q w s.top g sd a t j
  askd k = inst_asked sd a t k

  halves : {j : Judgement} (k : Asks q w s.top g (inst_ask sd a t) j) → IsArrow (askd k).T
  halves k = is_arrow (askd k).T (pre.code (askd k).T (askd k).den)

  whole : {j : Judgement} (k : Asks q w s.top g (inst_ask sd a t) j) → Den q w s.top t (arrow (halves k).A (halves k).B)
  whole k = rw (halves k).is at (askd k).den

  pub arr_held : HeldAs q w s.top t 5
  arr_held =
      let v = askd pre.pre.asks in
      rw (pre.code v.T v.den) at (held_is pre.pre.room v.den)

  pub arr_unknown : HeldNamed q w s.top a
  arr_unknown = unknown_named pre.pre.room (askd pre.pre.asks).unknown

-- it is asked, its type's halves and its unknown's name are read, and the unknown is parted; t is the cycle's measure
pub record Halved (t : ℕ) : Type 0 where
  pub m : Here
  pub q : List ℕ
  pub w : List ℕ
  pub s : State
  pub g : Span
  pub sd : Side
  pub a : ℕ
  pub ty : ℕ
  pub l : ℕ
  pub r : ℕ
  pub x : TyVar
  pub w₁ : List ℕ
  pub o : Parted
  pub od : Side
  pub pre : FormPre sd q w s g a ty 5
  pub falls : 5 * s.left + 3 ≡ t
  pub left : LeftOf q w s.top ty l
  pub right : RightOf q w s.top ty r
  pub name : Named q w s.top a x
  pub parts : Parts m q w w₁ s g x o
  pub back : od ≡ other sd

module _ {t : ℕ} (h : Halved t) where
  -- how the rule may be asked, what it comes to, and how it ends
  abbrev At : Judgement → Type 0
  At j = Asks h.q h.w h.s.top h.g (inst_ask h.sd h.a h.ty) j

  abbrev outcome : Judgement → Out Fired
  outcome j = rule (here h.m) (judge (here h.m)) j h.s.left h.s.fresh

  abbrev Ends : List ℕ → Step → Type 0
  Ends w' z = Fires h.m h.q h.w w' h.s h.g (inst_ask h.sd h.a h.ty) z

  -- the two fresh names
  abbrev b₁ : syntax.TyVar
  b₁ = fresh_name h.s.fresh

  abbrev b₂ : syntax.TyVar
  b₂ = fresh_name (suc h.s.fresh)

  -- ## The first half, on the other side

  abbrev first : {j : Judgement} → At j → Judgement
  first k = inst h.od (split (here h.m) (askd h.pre k).x b₁ b₂ (askd h.pre k).Γ) b₁ (halves h.pre k).A

  left₁ : {j : Judgement} (k : At j) → Den h.q h.w₁ h.o.st.top h.l (halves h.pre k).A
  left₁ k = den_frame h.parts.keep h.parts.up (h.left.is _ _ (whole h.pre k)).den

  asks₁ : {j : Judgement} (k : At j) → Asks h.q h.w₁ h.o.st.top h.o.g (inst_ask h.od h.o.b h.l) (first k)
  asks₁ k = let v = askd h.pre k in
      asks_inst h.od (rw (h.name.of_etvar v.x v.unknown) at (h.parts.run v.Γ v.run)) h.parts.first (left₁ k)

  room₁ : Room h.q h.w₁ h.o.st 0
  room₁ = let f = h.parts.fresh in let e = h.parts.left in
      built_room h.pre.pre.room 0 (parts_built h.parts) (omega arith) (omega (arith, h.pre.pre.names))

  pub arr_first : (5 * h.o.st.left + 2 < t) × JudgePre h.q h.w₁ h.o.st h.o.g (inst_ask h.od h.o.b h.l)
  arr_first = let k = h.pre.pre.asks in
      (omega (arith, h.falls, h.parts.left), inst_pre h.od room₁ (h.parts.run _ (askd h.pre k).run) h.parts.first (left₁ k))

  so₁ : Sofar h.q h.w h.w₁ h.s h.o.st leaf
  so₁ = built_on begin (parts_built h.parts)

  says₁ : {j : Judgement} (k : At j) → outcome j
      ≡ and_then (judge (here h.m) (first k) h.o.st.left h.o.st.fresh)
      (λ u l n. and_then (apply u.1 (halves h.pre k).B l n)
      (λ B l n. and_then (judge (here h.m) (inst h.sd u.1 b₂ B) l n) (λ v. give (inst_arr h.sd, int, v.1, u.2 & v.2 & leaf))))
  says₁ k = let v = askd h.pre k in let p = halves h.pre k in
      ap outcome (v.is ∙ ap (λ (T : Ty). inst h.sd v.Γ v.x T) p.is)
      ∙ rw (h.parts.left, h.parts.fresh, h.back) (arr_is (here h.m) (judge (here h.m)) v.Γ v.x h.s.left h.s.fresh h.sd p.A p.B)

  module _ {w₂ : List ℕ} {z : Step} (call : Judged h.m h.q h.w₁ w₂ h.o.st h.o.g (inst_ask h.od h.o.b h.l) z) where
    pub arr_else₁ : NotDone z → Ends w₂ z
    arr_else₁ nd = else_fires (λ j k. record { ts = leaf; so = so₁; i = _; asks = asks₁ k; next = _; says = says₁ k }) call nd

    module _ {u : Answer} (d : z ≡ Ok u) where
      came : {j : Judgement} (k : At j) → Came h.q w₂ h.o.st u (judge (here h.m) (first k) h.o.st.left h.o.st.fresh)
      came k = gave so₁ call (asks₁ k) d

      so₂ : {j : Judgement} (k : At j) → Sofar h.q h.w w₂ h.s u.st ((came k).t & leaf)
      so₂ k = on so₁ call (asks₁ k) (came k)

      -- what was denoted once the unknown was parted is denoted now
      stays : {n : ℕ} {T : Ty} → Den h.q h.w₁ h.o.st.top n T → Den h.q w₂ u.st.top n T
      stays e = let k = h.pre.pre.asks in den_frame (call.run _ (asks₁ k)).keep (came k).land.up e

      -- ## The context is applied to the second half

      right₂ : {j : Judgement} (k : At j) → Den h.q w₂ u.st.top h.r (halves h.pre k).B
      right₂ k = stays (den_frame h.parts.keep h.parts.up (h.right.is _ _ (whole h.pre k)).den)

      pub arr_apply : ApplyPre h.q w₂ u.st u.g h.r
      arr_apply = let k = h.pre.pre.asks in let x = (came k).land in
          record { spare = _; room = x.room; ctx = _; run = x.run; type = _; den = right₂ k }

      says₂ : {j : Judgement} (k : At j) → outcome j
          ≡ and_then (apply (came k).Δ (halves h.pre k).B u.st.left u.st.fresh)
          (λ B l n. and_then (judge (here h.m) (inst h.sd (came k).Δ b₂ B) l n) (λ v. give (inst_arr h.sd, int, v.1, (came k).t & v.2 & leaf)))
      says₂ k = says₁ k ∙ then_done _ (came k).is

      module _ {w₃ : List ℕ} {y : Result Made layout.Spent} (made : Applied h.q w₂ w₃ u.st u.g h.r y) where
        makes : {j : Judgement} (k : At j) → Makes h.q w₂ w₃ u.st y (apply (came k).Δ (halves h.pre k).B u.st.left u.st.fresh)
        makes k = made.makes (came k).Δ (came k).land.run (halves h.pre k).B (right₂ k)

        pub arr_spent : {x : layout.Spent} → y ≡ Err x → Ends w₃ (Err Spent)
        arr_spent e = record {
          run = λ j k.
              let n = passing.ended (makes k) e in
              stopped (built u.st (so₂ k) n.keep (le_refl _) refl (le_refl _)) _ (says₂ k ∙ then_stop _ n.is);
        }

        -- ## The second half, on this side

        module _ {v : Made} (e : y ≡ Ok v) where
          applied : {j : Judgement} (k : At j)
              → Reached h.q w₂ w₃ u.st v.st v.ty (apply (came k).Δ (halves h.pre k).B u.st.left u.st.fresh)
          applied k = reached (makes k) e

          passed : Passed w₂ w₃ u.st v.st 1
          passed = (applied h.pre.pre.asks).passed

          unknown₂ : Den h.q w₃ v.st.top h.o.c (etvar b₂)
          unknown₂ = den_frame passed.keep passed.up (stays h.parts.second)

          asks₂ : {j : Judgement} (k : At j)
              → Asks h.q w₃ v.st.top u.g (inst_ask h.sd h.o.c v.ty) (inst h.sd (came k).Δ b₂ (applied k).type)
          asks₂ k = asks_inst h.sd (run_frame passed.keep passed.up (came k).land.run) unknown₂ (applied k).den

          so₃ : {j : Judgement} (k : At j) → Sofar h.q h.w w₃ h.s v.st ((came k).t & leaf)
          so₃ k = built_on (so₂ k) (passed_built passed)

          pub arr_second : (5 * v.st.left + 2 < t) × JudgePre h.q w₃ v.st u.g (inst_ask h.sd h.o.c v.ty)
          arr_second = let k = h.pre.pre.asks in let x = (came k).land in (
            omega (arith, h.falls, (so₃ k).less),
            inst_pre h.sd (passing.room_on passed x.room) (run_frame passed.keep passed.up x.run) unknown₂ (applied k).den,
          )

          says₃ : {j : Judgement} (k : At j) → outcome j
              ≡ and_then (judge (here h.m) (inst h.sd (came k).Δ b₂ (applied k).type) v.st.left v.st.fresh)
              (λ x. give (inst_arr h.sd, int, x.1, (came k).t & x.2 & leaf))
          says₃ k =
              let f = ap (λ (n : ℕ). done (applied k).type v.st.left n) (sym passed.fresh) in
              says₂ k ∙ then_done _ ((applied k).is ∙ f)

          module _ {w₄ : List ℕ} {z₂ : Step} (call₂ : Judged h.m h.q w₃ w₄ v.st u.g (inst_ask h.sd h.o.c v.ty) z₂) where
            pub arr_else₂ : NotDone z₂ → Ends w₄ z₂
            arr_else₂ nd = else_fires (λ j k. record { ts = _; so = so₃ k; i = _; asks = asks₂ k; next = _; says = says₃ k }) call₂ nd

            pub arr_done : {u₂ : Answer} {n : ℕ} {x : Step} → z₂ ≡ Ok u₂ → n ≡ rule_number (inst_arr h.sd) → PlainOut u₂.st u₂.g INT n 2 x → Ends w₄ x
            unfolding children
            arr_done d₂ number th = record {
              run = λ j k. through_ends (so₃ k) call₂ (asks₂ k) d₂ (inst_arr h.sd) number (λ t. refl) (omega arith) th _ (says₃ k);
            }
