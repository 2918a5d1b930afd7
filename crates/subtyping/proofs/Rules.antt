-- The rule in an arm: what it is asked, what it comes to, and the arms without premises or with an instantiation.
use mathlib.Core.Path.{◌≡◌, refl, ◌∙◌, ap}
use mathlib.Core.List.{List}
use Prim.Native.Nat.{ℕ, ◌<◌}
use native.Mathlib.Omega.{arith}
use Rattle.std.specs.Prelude.{Ok, Err}
use Rattle.definition.specs.Syntax.{TyVar, Ty, int, etvar, Ctx, Side, on_l, on_r, Judgement, inst, rule_number, leaf, ◌&◌, children, subtyping_error}
use Rattle.definition.specs.Run.{M, and_then, give, refuse, ◌>>=◌}
use Rattle.definition.specs.Rules as definition
use Rattle.definition.specs.Rules.{Fired, Judge, closes, sub_inst, rule, judge}
use Rattle.definition.specs.Reply.{error_code, error_at}
use Rattle.layout.specs.Sizes.{INT}
use Rattle.layout.specs.Denotes.{Den}
use Rattle.layout.specs.declared.Span.{Span}
use Rattle.layout.specs.declared.State.{State}
use Rattle.judging.specs.Asking.{here, Asks, sub_ask, inst_ask, JudgePre, RulePre}
use Rattle.judging.specs.Ending.{Step, shown_two, Failed, Judged, Fires}
use Rattle.judging.specs.Names.{rule_of, error_of}
use Rattle.judging.specs.declared.Answer.{Answer}
use Rattle.judging.specs.declared.Here.{Here}
use Rattle.judging.specs.declared.Shown.TheVariants.{TwoTypes}
use Rattle.judging.specs.declared.Rule as declared
use Rattle.judging.specs.declared.Rule.TheVariants as rules
use Rattle.judging.specs.declared.Stop.{Stop}
use Rattle.judging.specs.declared.Stop.TheVariants.{Fail}
use Rattle.judging.specs.declared.TypeError.TheVariants.{SubtypingError}
use Rattle.judging.proofs.Asking.{SubAsked, sub_asked, asks_inst}
use Rattle.judging.proofs.Chain.{begin, refuses, room_within}
use Rattle.judging.proofs.Steps.{NotDone}
use Rattle.rules.specs.Going.{PlainOut}
use Rattle.rules.specs.Sides.{side}
use Rattle.rules.specs.declared.Side as program
use Rattle.layout.proofs.Denotes.{int_den}
use Rattle.rules.proofs.Premises.{inst_pre, else_fires, through_ends}
use Rattle.rules.proofs.Ways.{start, finish}
use Rattle.subtyping.specs.Arms.{rule_inst, Comes, ArmFits, fits_refl, fits_inst, fits_none, ArmChosen, ArmPre}
use Rattle.instantiation.specs.Sides.{on_side}
use Rattle.subtyping.specs.declared.Arm.{Arm}
use Rattle.subtyping.specs.declared.Arm.TheVariants as arm

-- ## By the side

pub one_den : {q w : List ℕ} {t a b : ℕ} {A B : Ty} (sd : Side) → Den q w t a A → Den q w t b B → Den q w t (on_side sd a b) (on_side sd A B)
one_den on_l d e = d
one_den on_r d e = e

pub one_small : {a b n : ℕ} (sd : Side) → a < n → b < n → on_side sd a b < n
one_small on_l h k = h
one_small on_r h k = k

-- ## What the rule comes to

pub arm_pre : {q w : List ℕ} {s : State} {g : Span} {a b : ℕ} {x z : Arm} → RulePre q w s g (sub_ask a b) → ArmChosen q w s.top a b x → x ≡ z
    → ArmPre q w s g a b z
arm_pre pre c e = record { pre = pre; chosen = rw e at c }

module _ {q w : List ℕ} {s : State} {g : Span} {a b : ℕ} {z : Arm} (pre : ArmPre q w s g a b z) where
  pub askd : {j : Judgement} → Asks q w s.top g (sub_ask a b) j → SubAsked q w s.top g a b j
  askd k = sub_asked a b k

  pub fits : {j : Judgement} (k : Asks q w s.top g (sub_ask a b) j) → ArmFits (askd k).A (askd k).B z
  fits k = pre.chosen.is (askd k).A (askd k).B (askd k).left (askd k).right

  pub comes : (m : Here) {j : Judgement} (k : Asks q w s.top g (sub_ask a b) j) {K : definition.Here → Judge → Ctx → M Fired}
      → Comes (askd k).A (askd k).B K
      → rule (here m) (judge (here m)) j s.left s.fresh ≡ K (here m) (judge (here m)) (askd k).Γ s.left s.fresh
  unfolding rule
  comes m k c =
      ap (λ (i : Judgement). rule (here m) (judge (here m)) i s.left s.fresh) (askd k).is
      ∙ ap (λ (f : M Fired). f s.left s.fresh) (c (here m) (judge (here m)) (askd k).Γ)

-- ## The arms without premises

refl_fits : {A B : Ty} {n : declared.Rule} → ArmFits A B (arm.Refl n) → Comes A B (λ h judge Γ. closes (rule_of n) Γ)
refl_fits (fits_refl c) = c

pub refl_fires : {m : Here} {q w : List ℕ} {s : State} {g : Span} {a b v : ℕ} {n : declared.Rule} {z : Step} → ArmPre q w s g a b (arm.Refl n)
    → v ≡ rule_number (rule_of n) → PlainOut s g INT v 0 z → Fires m q w w s g (sub_ask a b) z
unfolding closes give children
refl_fires {m} {q} {w} {n = n} pre e out = record {
  run = λ j k.
      let room = pre.pre.room in
      finish (rule_of n) (out.finished q w) (askd pre k).run (int_den room.base) (start room (comes pre m k (refl_fits (fits pre k))))
      (omega arith) e refl (omega arith);
}

none_fits : {A B : Ty} → ArmFits A B arm.Neither → Comes A B (λ h judge Γ. refuse (subtyping_error A B))
none_fits (fits_none c) = c

pub none_fires : {m : Here} {q w : List ℕ} {s : State} {g : Span} {a b : ℕ} {x : Stop} → ArmPre q w s g a b arm.Neither
    → x ≡ Fail (record { st = s; code = error_code (error_of SubtypingError); name = 0; shown = TwoTypes a b; charge = 0 }) → Fires m q w w s g (sub_ask a b) (Err x)
unfolding refuse error_at
none_fires {m} {q} {w} {s} {g} {a} {b} pre i = rw i (record {
  run = λ j k.
      let v = askd pre k in
      let f : Failed q w (record { st = s; code = error_code (error_of SubtypingError); name = 0; shown = TwoTypes a b; charge = 0 }) (subtyping_error v.A v.B) s.left =
      record { base = pre.pre.room.base; within = room_within pre.pre.room; code = refl; name = refl; shown = shown_two v.left v.right; left = refl } in
      refuses begin f _ (comes pre m k (none_fits (fits pre k)));
})

-- ## SubInstL and SubInstR: one instantiation, of the unknown u by the type t

record UnknownOn (sd : Side) (A B : Ty) : Type 0 where
  x : TyVar
  is : on_side sd A B ≡ etvar x
  comes_to : Comes A B (λ h judge Γ. sub_inst h judge (rule_inst sd) sd Γ (on_side sd B A) x)

unknown_fits : {A B : Ty} {z : program.Side} → ArmFits A B (arm.Inst z) → UnknownOn (side z) A B
unknown_fits (fits_inst {x = x} e c) = record { x = x; is = e; comes_to = c }

-- of two rules the program picks the one that the definition does
inst_is : {n : declared.Rule} (sd : Side) → n ≡ on_side sd rules.SubInstL rules.SubInstR → rule_of n ≡ rule_inst sd
inst_is on_l e = ap rule_of e
inst_is on_r e = ap rule_of e

module _ {q w : List ℕ} {s : State} {g : Span} {a b : ℕ} {z : program.Side} (pre : ArmPre q w s g a b (arm.Inst z)) where
  unknown : {j : Judgement} (k : Asks q w s.top g (sub_ask a b) j) → UnknownOn (side z) (askd pre k).A (askd pre k).B
  unknown k = unknown_fits (fits pre k)

  -- what is asked
  abbrev way : {j : Judgement} → Asks q w s.top g (sub_ask a b) j → Judgement
  way k = inst (side z) (askd pre k).Γ (unknown k).x (on_side (side z) (askd pre k).B (askd pre k).A)

  says : (m : Here) {j : Judgement} (k : Asks q w s.top g (sub_ask a b) j) → rule (here m) (judge (here m)) j s.left s.fresh
      ≡ and_then (judge (here m) (way k) s.left s.fresh) (λ v. give (rule_inst (side z), int, v.1, v.2 & leaf))
  unfolding sub_inst ◌>>=◌
  says m k = comes pre m k (unknown k).comes_to

  module _ {u t : ℕ} (eu : u ≡ on_side (side z) a b) (et : t ≡ on_side (side z) b a) where
    unknown_den : {j : Judgement} (k : Asks q w s.top g (sub_ask a b) j) → Den q w s.top u (etvar (unknown k).x)
    unknown_den k = rw eu (rw (unknown k).is at (one_den (side z) (askd pre k).left (askd pre k).right))

    type_den : {j : Judgement} (k : Asks q w s.top g (sub_ask a b) j) → Den q w s.top t (on_side (side z) (askd pre k).B (askd pre k).A)
    type_den k = rw et (one_den (side z) (askd pre k).right (askd pre k).left)

    pub inst_first : JudgePre q w s g (inst_ask (side z) u t)
    inst_first = let k = pre.pre.asks in inst_pre (side z) pre.pre.room (askd pre k).run (unknown_den k) (type_den k)

    asks₁ : {j : Judgement} (k : Asks q w s.top g (sub_ask a b) j) → Asks q w s.top g (inst_ask (side z) u t) (way k)
    asks₁ k = asks_inst (side z) (askd pre k).run (unknown_den k) (type_den k)

    module _ {m : Here} {w₁ : List ℕ} {y : Step} (call : Judged m q w w₁ s g (inst_ask (side z) u t) y) where
      pub inst_else : NotDone y → Fires m q w w₁ s g (sub_ask a b) y
      inst_else nd = else_fires (λ j k. record { ts = leaf; so = begin; i = _; asks = asks₁ k; next = _; says = says m k }) call nd

      pub inst_done : {r : Answer} {n : declared.Rule} {v : ℕ} {o : Step} → y ≡ Ok r → v ≡ rule_number (rule_of n) → n ≡ on_side (side z) rules.SubInstL rules.SubInstR
          → PlainOut r.st r.g INT v 1 o → Fires m q w w₁ s g (sub_ask a b) o
      unfolding children
      inst_done d ev en th = record {
        run = λ j k.
            through_ends begin call (asks₁ k) d (rule_inst (side z)) (ev ∙ ap rule_number (inst_is (side z) en)) (λ v. refl) (omega arith) th _ (says m k);
      }
