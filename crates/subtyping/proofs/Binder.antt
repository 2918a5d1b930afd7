-- SubAllR and SubAllL: the rule that opens the Forall on a side.
use mathlib.Core.Path.{◌≡◌, refl, ◌∙◌, ap}
use mathlib.Core.List.{List}
use Prim.Native.Nat.{ℕ}
use Rattle.std.specs.Prelude.{Result}
use Rattle.definition.specs.Syntax
use Rattle.definition.specs.Syntax.{TyVar, Ty, int, forall, Ctx, Side, on_l, on_r, Judgement, subtype, Rule, leaf, ◌&◌}
use Rattle.definition.specs.Run.{and_then, give, ◌>>=◌}
use Rattle.definition.specs.Contexts.{right_of}
use Rattle.definition.specs.Rules.{Here, Judge, judge, sub_all_r, sub_all_l, ty_code}
use Rattle.layout.specs.Denotes.{Den}
use Rattle.layout.specs.Room.{Room}
use Rattle.layout.specs.declared.Span.{Span}
use Rattle.layout.specs.declared.Spent.{Spent}
use Rattle.layout.specs.declared.State.{State}
use Rattle.layout.proofs.Denotes.{den_frame}
use Rattle.judging.specs.Asking.{here, Asks, as_sub, sub_ask, Small}
use Rattle.judging.specs.Names.{rule_of}
use Rattle.judging.specs.declared.Here as program-here
use Rattle.judging.specs.declared.Rule as declared
use Rattle.judging.specs.declared.Rule.TheVariants as rules
use Rattle.judging.proofs.Asking.{small_sub}
use Rattle.rules.specs.Opening.{ForallPre, OpensOn}
use Rattle.rules.specs.Sides.{side, opened_ty, opened_ctx, binder}
use Rattle.rules.specs.declared.Body.{Body}
use Rattle.rules.specs.declared.Side as program
use Rattle.rules.proofs.Standing.{forall_pre, ref_small}
use Rattle.rules.proofs.Under.{Under}
use Rattle.subtyping.specs.Arms.{sub_all, Comes, ArmFits, fits_all, ArmPre}
use Rattle.instantiation.specs.Sides.{on_side}
use Rattle.subtyping.specs.declared.Arm.TheVariants as arm
use Rattle.subtyping.proofs.Rules.{one_den, one_small, askd, fits, comes}

record ForallOn (sd : Side) (A B : Ty) : Type 0 where
  x : TyVar
  T : Ty
  is : on_side sd A B ≡ forall x T
  comes_to : Comes A B (λ h judge Γ. sub_all sd h judge Γ (on_side sd B A) (x, T))

all_fits : {A B : Ty} {z : program.Side} → ArmFits A B (arm.All z) → ForallOn (side z) A B
all_fits (fits_all {x = x} {T = T} e c) = record { x = x; T = T; is = e; comes_to = c }

abbrev pub rule_all : Side → Rule
rule_all on_l = Syntax.SubAllL
rule_all on_r = Syntax.SubAllR

-- of two rules the program picks the one that the definition does
pub all_rule : {n : declared.Rule} (sd : Side) → n ≡ on_side sd rules.SubAllL rules.SubAllR → rule_of n ≡ rule_all sd
all_rule on_l e = ap rule_of e
all_rule on_r e = ap rule_of e

-- the two rules in one form: the opened type takes the Forall's place
all_is : (h : Here) (judge : Judge) (Γ : Ctx) (A B : Ty) (x : TyVar) (T : Ty) (l n : ℕ) (sd : Side) → sub_all sd h judge Γ (on_side sd B A) (x, T) l n
    ≡ and_then (opened_ty sd x T l n)
    (λ T' l n. and_then (judge (subtype (opened_ctx h sd Γ x) (on_side sd T' A) (on_side sd B T')) l n)
    (λ u. give (rule_all sd, int, right_of (binder sd x) u.1, u.2 & leaf)))
unfolding sub_all_r sub_all_l ◌>>=◌ and_then
all_is h judge Γ A B x T l n on_l = refl
all_is h judge Γ A B x T l n on_r = refl

module _ {q w : List ℕ} {s : State} {g : Span} {a b : ℕ} {z : program.Side} (pre : ArmPre q w s g a b (arm.All z)) where
  inside : {j : Judgement} (k : Asks q w s.top g (sub_ask a b) j) → ForallOn (side z) (askd pre k).A (askd pre k).B
  inside k = all_fits (fits pre k)

  whole : {r : ℕ} → r ≡ on_side (side z) a b → {j : Judgement} (k : Asks q w s.top g (sub_ask a b) j)
      → Den q w s.top r (forall (inside k).x (inside k).T)
  whole e k = rw e (rw (inside k).is at (one_den (side z) (askd pre k).left (askd pre k).right))

  pub all_open : {r : ℕ} → r ≡ on_side (side z) a b → ForallPre q w s g r
  unfolding ty_code
  all_open e = let k = pre.pre.asks in forall_pre pre.pre.room (askd pre k).run (whole e k) refl

  pub all_small : {w₁ : List ℕ} {s₁ : State} {k t : ℕ} → Room q w₁ s₁ k → (T : Ty) → Den q w₁ s₁.top t T
      → Small (sub_ask (on_side (side z) t a) (on_side (side z) b t))
  all_small room T d =
      let v = askd pre pre.pre.asks in
      small_sub (one_small (side z) (ref_small room d) (ref_small pre.pre.room v.left))
      (one_small (side z) (ref_small pre.pre.room v.right) (ref_small room d))

  pub under_on : {m : program-here.Here} {w₁ : List ℕ} {r : ℕ} {x : Result Body Spent} → r ≡ on_side (side z) a b → OpensOn m q w w₁ s g r (side z) x → (j : Judgement)
      → Asks q w s.top g (sub_ask a b) j
      → Under m q w w₁ s g (λ p. sub_ask (on_side (side z) p.ty a) (on_side (side z) b p.ty)) (binder (side z)) (rule_all (side z)) x j
  under_on {m} e in₁ j k =
      let v = askd pre k in
      let f = inside k in
      record {
        b = f.x;
        Δ = _;
        O = _;
        opens = in₁.opens v.Γ f.x f.T v.run (whole e k);
        i = _;
        asks = λ p T bt op.
            as_sub refl refl op.run (one_den (side z) op.den (den_frame bt.keep bt.up v.left))
            (one_den (side z) (den_frame bt.keep bt.up v.right) op.den);
        says = comes pre m k f.comes_to ∙ all_is (here m) (judge (here m)) v.Γ v.A v.B f.x f.T s.left s.fresh (side z);
      }
