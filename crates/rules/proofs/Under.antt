-- A rule that opens a Forall, asks one judgement there, and gives what stands right of the name or mark.
use mathlib.Core.Path.{◌≡◌, refl, sym, ◌∙◌, ap}
use mathlib.Core.Bool.{false}
use mathlib.Core.List.{List}
use Prim.Native.Nat.{ℕ, ◌+◌, ◌*◌, ◌≤◌}
use native.Mathlib.Nat.{le_refl}
use native.Mathlib.Omega.{arith}
use Rattle.std.specs.Prelude.{Result, Ok, Err}
use Rattle.definition.specs.Syntax.{TyVar, Ty, int, Ctx, Judgement, Rule, rule_number, leaf, ◌&◌, children}
use Rattle.definition.specs.Run.{Out, done, and_then, give}
use Rattle.definition.specs.Contexts.{Key, right_of}
use Rattle.definition.specs.Rules.{rule, judge}
use Rattle.layout.specs.Sizes.{INT}
use Rattle.layout.specs.Names.{ty}
use Rattle.layout.specs.Denotes.{Den}
use Rattle.layout.specs.Room.{Room}
use Rattle.layout.specs.declared.Span.{Span}
use Rattle.layout.specs.declared.Spent as layout
use Rattle.layout.specs.declared.State.{State}
use Rattle.contexts.specs.Build.{Space}
use Rattle.judging.specs.Asking.{here, Asks, Small, JudgePre, RulePre}
use Rattle.judging.specs.declared.Answer.{Answer}
use Rattle.judging.specs.declared.Ask.{Ask}
use Rattle.judging.specs.declared.Here.{Here}
use Rattle.judging.specs.Ending.{Step, Judged, Fires}
use Rattle.judging.specs.declared.Stop.TheVariants.{Spent}
use Rattle.judging.proofs.Steps.{NotDone}
use Rattle.judging.proofs.Chain.{room_ready, Sofar, begin, built, stopped}
use Rattle.rules.specs.Built.{Built}
use Rattle.rules.specs.Going.{KeepOut}
use Rattle.rules.specs.Opening.{Opens, Instances}
use Rattle.rules.specs.declared.Body.{Body}
use Rattle.rules.proofs.Standing.{built_room, built_on}
use Rattle.rules.proofs.Premises.{else_fires, then_done, then_stop, came_space, right_ends}
use Rattle.rules.proofs.Opening.{InstanceOf, instance_of, no_instance}

-- what the rule R for j comes to: what opening comes to, O, and with its type T the judgement i T, which a₁ asks; K is the name's or the mark's key
pub record Under (m : Here) (q w w₁ : List ℕ) (s : State) (g : Span) (a₁ : Body → Ask) (K : TyVar → Key) (R : Rule) (x : Result Body layout.Spent) (j : Judgement) : Type 0 where
  pub b : TyVar
  pub Δ : Ctx
  pub O : Out Ty
  pub opens : Instances q w w₁ s g b Δ x O
  pub i : Ty → Judgement
  pub asks : (o : Body) (T : Ty) → Built w w₁ s o.st (4 * g.n + 10) → Opens q w₁ s o b Δ T → Asks q w₁ o.st.top o.g (a₁ o) (i T)
  pub says : rule (here m) (judge (here m)) j s.left s.fresh
      ≡ and_then O (λ T l n. and_then (judge (here m) (i T) l n) (λ u. give (R, int, right_of (K b) u.1, u.2 & leaf)))

module _ {m : Here} {q w w₁ : List ℕ} {s : State} {g : Span} {a : Ask} {a₁ : Body → Ask} {K : TyVar → Key} {R : Rule} {x : Result Body layout.Spent}
    (under : (j : Judgement) → Asks q w s.top g a j → Under m q w w₁ s g a₁ K R x j) where
  -- opening takes more than the budget
  pub under_spent : {y : layout.Spent} → x ≡ Err y → Fires m q w w₁ s g a (Err Spent)
  under_spent e = record {
    run = λ j k.
        let v = under j k in
        let n = no_instance v.opens e in
        stopped (built s begin n.keep (le_refl _) refl (le_refl _)) _ (v.says ∙ then_stop _ n.is);
  }

  module _ (pre : RulePre q w s g a) {o : Body} (d : x ≡ Ok o) where
    opened : {j : Judgement} (k : Asks q w s.top g a j) → InstanceOf q w w₁ s g (under j k).b (under j k).Δ o (under j k).O
    opened k = instance_of (under _ k).opens d

    -- by anything that was asked
    this : InstanceOf q w w₁ s g (under pre.j pre.asks).b (under pre.j pre.asks).Δ o (under pre.j pre.asks).O
    this = opened pre.asks

    so : Sofar q w w₁ s o.st leaf
    so = built_on begin this.built

    asks₁ : {j : Judgement} (k : Asks q w s.top g a j) → Asks q w₁ o.st.top o.g (a₁ o) ((under j k).i (opened k).type)
    asks₁ k = let v = opened k in (under _ k).asks o v.type v.built v.opens

    says₁ : {j : Judgement} (k : Asks q w s.top g a j) → rule (here m) (judge (here m)) j s.left s.fresh
        ≡ and_then (judge (here m) ((under j k).i (opened k).type) o.st.left o.st.fresh)
        (λ u. give (R, int, right_of (K (under j k).b) u.1, u.2 & leaf))
    says₁ k =
        let v = opened k in
        (under _ k).says ∙ then_done _ (v.is ∙ ap (λ (n : ℕ). done v.type o.st.left n) (sym v.opens.fresh))

    pub under_room : Room q w₁ o.st 0
    under_room =
        let f = this.opens.fresh in
        built_room pre.room 0 this.built (omega arith) (omega (arith, this.built.less, pre.names))

    pub under_first : ((T : Ty) → Den q w₁ o.st.top o.ty T → Small (a₁ o)) → JudgePre q w₁ o.st o.g (a₁ o)
    under_first small = record {
      ready = room_ready o.g under_room;
      small = small _ this.opens.den;
      j = _;
      asks = asks₁ pre.asks;
    }

    pub under_falls : o.st.left ≤ s.left
    under_falls = so.less

    module _ {w₂ : List ℕ} {z : Step} (call : Judged m q w₁ w₂ o.st o.g (a₁ o) z) where
      pub under_else : NotDone z → Fires m q w w₂ s g a z
      under_else nd = else_fires (λ j k. record { ts = leaf; so = so; i = _; asks = asks₁ k; next = _; says = says₁ k }) call nd

      module _ {r : Answer} (c : z ≡ Ok r) where
        pub under_space : Space w₂ r.st r.g 0
        under_space = came_space so call (asks₁ pre.asks) c

        pub under_done : {n : ℕ} {w₃ : List ℕ} {y : Step} → n ≡ rule_number R → KeepOut false w₂ w₃ r (K (ty o.b)) INT n 1 y → Fires m q w w₃ s g a y
        unfolding children
        under_done {n} {w₃} {y} en al = record {
          run = λ j k.
              let b = (under j k).b in
              let al' : KeepOut false w₂ w₃ r (K b) INT n 1 y = rw (opened k).opens.name at al in
              right_ends so call (asks₁ k) c R (K b) en (λ t. refl) (omega arith) al' _ (says₁ k);
        }
