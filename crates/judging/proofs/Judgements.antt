-- A whole judgement: entering, its rule, leaving. The six judgement functions are proved by these alone.
use mathlib.Core.Path.{◌≡◌, refl}
use mathlib.Core.List.{List}
use Prim.Native.Nat.{ℕ, ◌+◌, ◌-◌, ◌*◌, ◌≤◌, ◌<◌}
use native.Mathlib.Nat.{le_refl}
use native.Mathlib.Omega.{arith}
use lib.ListN.{length}
use Rattle.std.specs.Prelude.{Ok, Err}
use Rattle.definition.specs.Syntax as Syntax
use Rattle.definition.specs.Syntax.{Judgement, given, Rule, rule_number, node, leaf, ◌&◌, children}
use Rattle.definition.specs.Run.{done, stop}
use Rattle.definition.specs.Rules.{rule, judge}
use Rattle.laws.specs.Count.{charged}
use Rattle.laws.proofs.Depth.{judge_left}
use Rattle.layout.specs.Words.{Keep}
use Rattle.layout.specs.Denotes.{Den, Run}
use Rattle.layout.specs.declared.Span.{Span}
use Rattle.layout.specs.declared.State.{State}
use Rattle.layout.proofs.Words.{keep_refl, keep_less, keep_trans}
use Rattle.layout.proofs.Denotes.{den_frame, den_small, run_frame, base_frame}
use Rattle.judging.specs.declared.Ask.{Ask}
use Rattle.judging.specs.declared.Answer.{Answer}
use Rattle.judging.specs.declared.Bad.{Bad}
use Rattle.judging.specs.declared.Here.{Here}
use Rattle.judging.specs.declared.Stop.TheVariants.{Fail, Spent}
use Rattle.judging.specs.Asking.{here, Asks, JudgePre, RulePre}
use Rattle.judging.specs.Nodes.{NodeAt, NodesAt, no_nodes, a_node}
use Rattle.judging.specs.Ending.{Step, Landed, landed, failed, ran_out, RunsJ, charge_of, Judged, Fires}
use Rattle.judging.specs.Leaving.{inner, ConcludePre, leaving, Concludes, unpaid_out, wrote, failing}
use Rattle.judging.proofs.Nodes.{asks_frame, asks_run, nodes_frame}
use Rattle.judging.proofs.Steps.{step_none, step_stop, step_fail, step_unpaid, step_paid, FiredBy, fired_by, FailsBy, refused_by, out_by, failed_again}

-- ## Entering

pub judge_spent : {m : Here} {q w : List ℕ} {s : State} {g : Span} {a : Ask} → s.left ≤ g.n → Judged m q w w s g a (Err Spent)
unfolding charged
judge_spent {m} {q} {w} {s} {g} {a} h = record {
  run = λ j k. record { keep = keep_refl _ _ _; ends = rw (stops k) ran_out };
  charge = λ j k. rw (stops k) refl;
}
  where
    stops : {j : Judgement} → Asks q w s.top g a j → judge (here m) j s.left s.fresh ≡ stop
    stops {j} k = let c = (asks_run k).count in step_none (here m) j s.left s.fresh (omega arith)

-- the rules are 1 to 37
pub rule_small : (r : Rule) → rule_number r < 38
unfolding rule_number
rule_small Syntax.InfVar = omega arith
rule_small Syntax.InfLitInt = omega arith
rule_small Syntax.InfLitBool = omega arith
rule_small Syntax.InfLam = omega arith
rule_small Syntax.InfApp = omega arith
rule_small Syntax.InfLet = omega arith
rule_small Syntax.InfIf = omega arith
rule_small Syntax.InfArith = omega arith
rule_small Syntax.InfBool = omega arith
rule_small Syntax.InfCmp = omega arith
rule_small Syntax.InfEq = omega arith
rule_small Syntax.InfAnn = omega arith
rule_small Syntax.InfTAbs = omega arith
rule_small Syntax.InfTApp = omega arith
rule_small Syntax.InfAppArr = omega arith
rule_small Syntax.InfAppETVar = omega arith
rule_small Syntax.ChkLitInt = omega arith
rule_small Syntax.ChkLitBool = omega arith
rule_small Syntax.ChkLam = omega arith
rule_small Syntax.ChkAll = omega arith
rule_small Syntax.ChkSub = omega arith
rule_small Syntax.SubRefl = omega arith
rule_small Syntax.SubReflTVar = omega arith
rule_small Syntax.SubReflETVar = omega arith
rule_small Syntax.SubArr = omega arith
rule_small Syntax.SubAllR = omega arith
rule_small Syntax.SubAllL = omega arith
rule_small Syntax.SubInstL = omega arith
rule_small Syntax.SubInstR = omega arith
rule_small Syntax.InstLSolve = omega arith
rule_small Syntax.InstLReach = omega arith
rule_small Syntax.InstLArr = omega arith
rule_small Syntax.InstLAllR = omega arith
rule_small Syntax.InstRSolve = omega arith
rule_small Syntax.InstRReach = omega arith
rule_small Syntax.InstRArr = omega arith
rule_small Syntax.InstRAllL = omega arith

-- ## From entering to leaving

module _ {q w : List ℕ} {s : State} {g : Span} {a : Ask} (pre : JudgePre q w s g a) (pos : g.n < s.left) where
  deep : 12 ≤ s.low
  deep = omega (arith, pre.ready.fits)

  pub rule_pre : RulePre q w (inner s g) g a
  rule_pre =
      let d = deep in
      record {
        room = record {
          base = pre.ready.base;
          fits = omega (arith, pre.ready.fits);
          low = omega (arith, pre.ready.low);
          cap = pre.ready.cap;
          names = omega (arith, pre.ready.names);
        };
        names = omega (arith, pre.ready.names);
        small = pre.small;
        j = pre.j;
        asks = pre.asks;
      }

  cost : {j : Judgement} → Asks q w s.top g a j → 1 + length (given j) ≤ s.left
  cost k = let c = (asks_run k).count in omega arith

  less : {j : Judgement} → Asks q w s.top g a j → s.left - (g.n + 1) ≡ s.left - (1 + length (given j))
  less k = let c = (asks_run k).count in omega arith

  module _ {m : Here} {w₁ : List ℕ} {z₁ : Step} (call : Fires m q w w₁ (inner s g) g a z₁) where
    keep₁ : {j : Judgement} → Asks q w s.top g a j → Keep s.top s.low w w₁
    keep₁ {j} k = keep_less (le_refl _) (omega (arith, deep)) (call.run j k).keep

    -- a judgement ends in a type error as its rule does
    module _ {b : Bad} (d₁ : z₁ ≡ Err (Fail b)) where
      fails : (j : Judgement) (k : Asks q w s.top g a j) → FailsBy q w₁ b (judge (here m) j s.left s.fresh)
      fails j k =
          let f = refused_by (call.run j k).ends d₁ in
          record { e = f.e; is = step_fail (here m) j s.left s.fresh _ (cost k) (less k) f.is; fails = f.fails }

      pub fail_pre : b.st.left ≤ s.left
      fail_pre = let f = fails pre.j pre.asks in rw f.is at (judge_left (here m) pre.j s.left s.fresh)

      pub judge_fail : Judged m q w w₁ s g a (Err (Fail (failing s b)))
      unfolding charged
      judge_fail = record {
        run = λ j k. let f = fails j k in record { keep = keep₁ k; ends = rw f.is (failed (failed_again f.fails)) };
        charge = λ j k. let f = fails j k in rw f.is refl;
      }

    -- and runs out as its rule does
    pub judge_out : z₁ ≡ Err Spent → Judged m q w w₁ s g a (Err Spent)
    unfolding charged
    judge_out d₁ = record {
      run = λ j k. record { keep = keep₁ k; ends = rw (stops k) ran_out };
      charge = λ j k. rw (stops k) refl;
    }
      where
        stops : {j : Judgement} → Asks q w s.top g a j → judge (here m) j s.left s.fresh ≡ stop
        stops {j} k = step_stop (here m) j s.left s.fresh _ (cost k) (less k) (out_by (call.run j k).ends d₁)

    module _ {r : Answer} (d₁ : z₁ ≡ Ok r) where
      by : (j : Judgement) (k : Asks q w s.top g a j) → FiredBy q w₁ (inner s g) r (rule (here m) (judge (here m)) j (s.left - (g.n + 1)) s.fresh)
      by j k = fired_by (call.run j k).ends d₁

      pub conclude_pre : ConcludePre w₁ s g a r
      conclude_pre =
          let f = by pre.j pre.asks in
          let x = f.land in
          let lw = (call.run pre.j pre.asks).keep.long in
          let d = deep in
          let b = (asks_run pre.asks).below in
          let u = den_small x.den in
          record {
            node = deep;
            within = omega (arith, pre.ready.low);
            small = pre.small;
            at = omega (arith, pre.ready.over, pre.ready.low, pre.ready.cap);
            n = omega (arith, pre.ready.over, pre.ready.low, pre.ready.cap);
            out = omega (arith, x.run.below, x.room.fits, x.room.low, x.room.cap);
            n₂ = omega (arith, x.run.below, x.room.fits, x.room.low, x.room.cap);
            res = omega (arith, x.room.fits, x.room.low, x.room.cap);
            rule = omega (arith, f.rule_is, rule_small f.r);
            kids = omega (arith, f.kids_is, f.few);
            less = omega (arith, x.less);
          }

      -- the node is written, and the judgement is the definition's
      pub judge_done : {w₂ : List ℕ} {z : Step} → Concludes w₁ w₂ s g a r z → Judged m q w w₂ s g a z
      unfolding charged
      judge_done (unpaid_out h e) = record { run = λ j k. rw e (record { keep = keep₁ k; ends = rw (stops k) ran_out }); charge = λ j k. rw (stops k) refl }
        where
          stops : {j : Judgement} → Asks q w s.top g a j → judge (here m) j s.left s.fresh ≡ stop
          stops {j} k =
              let f = by j k in
              let c = f.land.run.count in
              let l = f.land.left in
              step_unpaid (here m) j s.left s.fresh _ (cost k) (less k) f.Δ f.is (omega arith)
      judge_done {w₂} (wrote h kp ws) = record { run = λ j k. go j k; charge = λ j k. pays j k }
        where
          ends : {j : Judgement} (k : Asks q w s.top g a j)
              → let f = by j k in judge (here m) j s.left s.fresh ≡ done (f.C, f.Δ, node f.r j f.C f.Δ f.ts) (f.l - length f.Δ) f.n
          ends {j} k =
              let f = by j k in
              let c = f.land.run.count in
              let lf = f.land.left in
              step_paid (here m) j s.left s.fresh _ (cost k) (less k) f.Δ f.is (omega arith)

          pays : (j : Judgement) → Asks q w s.top g a j → charge_of (Ok (leaving s r)) ≡ charged s.left (judge (here m) j s.left s.fresh)
          pays j k =
              let f = by j k in
              let c = f.land.run.count in
              let lf = f.land.left in
              rw (ends k, ← lf, ← c) refl

          go : (j : Judgement) → Asks q w s.top g a j → RunsJ q w w₂ s (Ok (leaving s r)) (judge (here m) j s.left s.fresh)
          go j k =
              let f = by j k in
              let x = f.land in
              let c = x.run.count in
              let dp = deep in
              let le : r.st.top ≤ s.low - 12 = omega (arith, x.room.fits, x.down) in
              let k₁ : Keep s.top s.low w w₁ = keep₁ k in
              let k₂ : Keep r.st.top s.low w₁ w₂ = keep_less le (omega arith) kp in
              let kk : Keep s.top s.low w w₂ = keep_trans k₁ (keep_less x.up (le_refl _) k₂) in
              let den₂ : Den q w₂ r.st.top r.ty f.C = den_frame k₂ (le_refl _) x.den in
              let run₂ : Run q w₂ r.st.top r.g.at r.g.n f.Δ = run_frame k₂ (le_refl _) x.run in
              let nd : NodeAt q w₂ r.st.top (s.low - 12) f.r (children f.ts) j f.C f.Δ =
              record {
                input = g;
                ask = a;
                output = r.g;
                ty = r.ty;
                words = rw (← f.rule_is, ← f.kids_is) ws;
                asks = asks_frame kk x.up k;
                out = run₂;
                den = den₂;
              } in
              let below : NodesAt q w₂ r.st.top r.st.low (s.low - 12) f.ts =
              nodes_frame k₂ (le_refl _) (λ i u v. kp.below i v) x.nodes in
              let ns : NodesAt q w₂ r.st.top r.st.low s.low (node f.r j f.C f.Δ f.ts & leaf) =
              a_node {m = s.low - 12} {hi = s.low} (omega arith) x.down nd below (le_refl _) (no_nodes refl) in
              let lf = x.left in
              let y : Landed q w₂ s (leaving s r) (4 * r.g.n + 4) f.C f.Δ (node f.r j f.C f.Δ f.ts & leaf) (f.l - length f.Δ) f.n =
              record {
                run = run₂;
                den = den₂;
                nodes = ns;
                left = omega arith;
                fresh = x.fresh;
                up = x.up;
                down = omega (arith, x.down);
                less = omega (arith, x.less);
                room = record {
                  base = base_frame k₂ (le_refl _) x.room.base;
                  fits = omega (arith, x.room.fits);
                  low = omega (arith, x.room.low, k₂.long);
                  cap = omega (arith, x.room.cap, k₂.long);
                  names = omega (arith, x.room.names);
                };
              } in
              record {
                keep = kk;
                ends = rw (ends k) (landed y);
              }
