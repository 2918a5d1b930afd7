-- The rules without premises.
use mathlib.Core.Path.{◌≡◌, refl, sym, ◌∙◌, ap}
use mathlib.Core.Bool.{Bool, true, false, true≢false}
use mathlib.Core.List.{List, ◌∷◌, []}
use Prim.Native.Nat.{ℕ, ◌+◌, ◌*◌}
use native.Mathlib.Nat.{le_refl}
use native.Mathlib.Omega.{arith}
use Rattle.std.specs.Prelude.{Err}
use Rattle.definition.specs.Syntax as syntax
use Rattle.definition.specs.Syntax.{Ty, int, etvar, setvar_bnd, Ctx, Side, Judgement, inst, Rule, rule_number, leaf, children, occurs_check}
use Rattle.definition.specs.Run.{Out, done}
use Rattle.definition.specs.Contexts.{before, replace}
use Rattle.definition.specs.Types.{is_mono, occurs}
use Rattle.definition.specs.Rules.{Fired, ◌from◌, inst_solve, inst_reach, rule, judge}
use Rattle.definition.specs.Reply.{error_code, error_at}
use Rattle.layout.specs.Names.{ty}
use Rattle.layout.specs.Words.{Keep}
use Rattle.layout.specs.Denotes.{Den, Run}
use Rattle.layout.specs.Room.{Room}
use Rattle.layout.specs.declared.Span.{Span}
use Rattle.layout.specs.declared.State.{State}
use Rattle.layout.specs.declared.TyVar.{TyVar}
use Rattle.layout.proofs.Words.{keep_less}
use Rattle.types.specs.Reading.{HeldNamed, Mono, Named}
use Rattle.rules.proofs.TypeForms.{is_etvar}
use Rattle.walks.specs.Walks.{Occurs}
use Rattle.contexts.proofs.Build.{replace_one}
use Rattle.judging.specs.Asking.{here, inst_ask, RulePre}
use Rattle.judging.specs.Ending.{Step, shown_one, Failed, RunsR, Fires}
use Rattle.judging.specs.Names.{rule_of, error_of}
use Rattle.judging.specs.declared.Here.{Here}
use Rattle.judging.specs.declared.Shown.TheVariants.{OneType}
use Rattle.judging.specs.declared.Rule as program
use Rattle.judging.specs.declared.Stop.{Stop}
use Rattle.judging.specs.declared.Stop.TheVariants.{Fail}
use Rattle.judging.specs.declared.TypeError.TheVariants.{OccursCheck}
use Rattle.judging.proofs.Asking.{InstAsked, inst_asked}
use Rattle.judging.proofs.Entries.{as_solved}
use Rattle.judging.proofs.Chain.{begin, built, refuses, room_on, room_within}
use Rattle.instantiation.specs.Sides.{FormPre, SolvePre, ReachPre, SolvedBy}
use Rattle.instantiation.proofs.Equations.{leaf_mono, occurs_is, solved_is, reach_is}
use Rattle.rules.proofs.Standing.{unknown_named}
use Rattle.rules.proofs.Premises.{ends}

-- ## A context that was built by solving an unknown is a rule's output

pub closed : {m : Here} {q w w₁ : List ℕ} {s : State} {g : Span} {x : TyVar} {y : syntax.TyVar} {r : ℕ} {n : program.Rule} {z : Step} {T : Ty} {Γ : Ctx} (R : Rule) → rule_of n ≡ R
    → ty x ≡ y → Room q w s (20 + 28 * g.n) → Run q w s.top g.at g.n Γ → Den q w s.top r T → SolvedBy m w w₁ s g x r n z
    → (O : Out Fired) → O ≡ done (R, int, replace y (setvar_bnd y T from here m ∷ []) Γ, leaf) s.left s.fresh → RunsR q w w₁ s z O
unfolding children
closed {w = w} {w₁} {s} {g} R e ex room run d c O eq =
    let p = c.replaced.grown.past in
    let t = p.top in
    let few = c.replaced.few in
    let lf = p.left in
    let ff = p.fresh in
    let lo = p.low in
    let kp : Keep s.top s.low w w₁ = keep_less (le_refl _) (omega (arith, room.fits)) c.replaced.grown.keep in
    rw c.is
    (ends c.o.st c.o.g R (ap rule_number e) refl (omega arith) (built c.o.st begin kp (omega arith) lo (omega arith))
    (room_on c.o.st 4 room kp (omega arith) (omega arith) (omega (arith, room.fits)) (omega (arith, room.names)))
    (rw ex at (replace_one c.replaced run (as_solved c.made d))) O (rw (lf, ff) eq))

-- ## What the code may read

module _ {q w : List ℕ} {s : State} {g : Span} (sd : Side) (a t : ℕ) (pre : RulePre q w s g (inst_ask sd a t)) where
  asked : InstAsked q w s.top g sd a t pre.j
  asked = inst_asked sd a t pre.asks

  pub side_unknown : HeldNamed q w s.top a
  side_unknown = unknown_named pre.room asked.unknown

-- ## The unknown a against a type without parts

module _ {q w : List ℕ} {s : State} {g : Span} {sd : Side} {a t : ℕ} (pre : SolvePre sd q w s g a t) where
  -- the stored mark never says no
  pub never_poly : {m : Bool} → Mono q w s.top t m → m ≡ false → ⊥
  never_poly h e =
      let v = asked sd a t pre.pre in
      true≢false (sym (leaf_mono v.T (pre.plain v.T v.den)) ∙ sym (h.is v.T v.den) ∙ e)

module _ {q w : List ℕ} {s : State} {g : Span} {sd : Side} {a t : ℕ} (pre : SolvePre sd q w s g a t) {x : TyVar} {m b : Bool} (nm : Named q w s.top a x)
    (mo : Mono q w s.top t m) (yes : m ≡ true) (oc : Occurs q w s.top x t b) where
  mono_so : (T : Ty) → Den q w s.top t T → is_mono T ≡ true
  mono_so T e = sym (mo.is T e) ∙ yes

  occurs_so : (v : syntax.TyVar) (T : Ty) → Den q w s.top a (etvar v) → Den q w s.top t T → occurs v T ≡ b
  occurs_so v T d e = ap (λ (y : syntax.TyVar). occurs y T) (sym (nm.of_etvar v d)) ∙ sym (oc.is T e)

  late : (Γ : Ctx) (v : syntax.TyVar) (T : Ty) → Run q w s.top g.at g.n Γ → Den q w s.top a (etvar v) → Den q w s.top t T
      → (y : syntax.TyVar) → T ≡ etvar y → before Γ v y ≡ false
  late Γ v T r d e y eq = pre.late.is Γ v y r d (rw eq at e)

  pub solve_occurs : {m : Here} {z : Stop} → b ≡ true
      → z ≡ Fail (record { st = s; code = error_code (error_of OccursCheck); name = x.0; shown = OneType t; charge = 0 })
      → Fires m q w w s g (inst_ask sd a t) (Err z)
  unfolding error_at
  solve_occurs {m} h i = rw i (record {
    run = λ j k.
        let v = inst_asked sd a t k in
        let f : Failed q w (record { st = s; code = error_code (error_of OccursCheck); name = x.0; shown = OneType t; charge = 0 }) (occurs_check v.x v.T) s.left =
        record { base = pre.pre.room.base; within = room_within pre.pre.room; code = refl; name = ap (λ (y : syntax.TyVar). y.number) (nm.of_etvar v.x v.unknown); shown = shown_one v.den; left = refl } in
        refuses begin f _
        (ap (λ (i : Judgement). rule (here m) (judge (here m)) i s.left s.fresh) v.is
        ∙ occurs_is (here m) (judge (here m)) v.Γ v.x s.left s.fresh sd v.T (pre.plain v.T v.den)
        (late v.Γ v.x v.T v.run v.unknown v.den) (mono_so v.T v.den) (occurs_so v.x v.T v.unknown v.den ∙ h));
  })

  pub solve_done : {m : Here} {w₁ : List ℕ} {n : program.Rule} {z : Step} → b ≡ false → rule_of n ≡ inst_solve sd → SolvedBy m w w₁ s g x t n z
      → Fires m q w w₁ s g (inst_ask sd a t) z
  solve_done {m} h e c = record {
    run = λ j k.
        let v = inst_asked sd a t k in
        closed (inst_solve sd) e (nm.of_etvar v.x v.unknown) pre.pre.room v.run v.den c _
        (ap (λ (i : Judgement). rule (here m) (judge (here m)) i s.left s.fresh) v.is
        ∙ solved_is (here m) (judge (here m)) v.Γ v.x s.left s.fresh sd v.T (pre.plain v.T v.den)
        (late v.Γ v.x v.T v.run v.unknown v.den) (mono_so v.T v.den) (occurs_so v.x v.T v.unknown v.den ∙ h));
  }

-- ## The unknown a against the unknown t

module _ {q w : List ℕ} {s : State} {g : Span} {sd : Side} {a t : ℕ} (pre : FormPre sd q w s g a t 4) where
  pub etvar_named : HeldNamed q w s.top t
  etvar_named =
      let v = asked sd a t pre.pre in
      let u = is_etvar v.T (pre.code v.T v.den) in
      unknown_named pre.pre.room (rw u.is at v.den)

pub reach_done : {m : Here} {q w w₁ : List ℕ} {s : State} {g : Span} {sd : Side} {a t : ℕ} {n : program.Rule} {y : TyVar} {z : Step} → ReachPre sd q w s g a t → Named q w s.top t y
    → rule_of n ≡ inst_reach sd → SolvedBy m w w₁ s g y a n z → Fires m q w w₁ s g (inst_ask sd a t) z
reach_done {m} {s = s} {sd = sd} {a = a} {t = t} pre nm e c = record {
  run = λ j k.
      let v = inst_asked sd a t k in
      let u = is_etvar v.T (pre.form.code v.T v.den) in
      let d = rw u.is at v.den in
      closed (inst_reach sd) e (nm.of_etvar u.a d) pre.form.pre.room v.run v.unknown c _
      (ap (λ (i : Judgement). rule (here m) (judge (here m)) i s.left s.fresh) (v.is ∙ ap (λ (T : Ty). inst sd v.Γ v.x T) u.is)
      ∙ reach_is (here m) (judge (here m)) v.Γ v.x s.left s.fresh sd u.a (pre.early.is v.Γ v.x u.a v.run v.unknown d));
}
