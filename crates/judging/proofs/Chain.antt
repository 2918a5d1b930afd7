-- A rule on its way: what was built, which judgements came back, how it ends.
use mathlib.Core.Path.{◌≡◌, refl, sym}
use mathlib.Core.List.{List}
use Prim.Native.Nat.{ℕ, ◌+◌, ◌*◌, ◌≤◌, ◌<◌}
use native.Mathlib.Nat.{le_trans, le_refl}
use native.Mathlib.Omega.{arith}
use lib.ListN.{length}
use Rattle.std.specs.Prelude.{Ok, Err}
use Rattle.definition.specs.Syntax.{Ty, Ctx, Judgement, Rule, rule_number, Trees, leaf, ◌&◌, children, TypeError}
use Rattle.definition.specs.Run.{Out, done, fail, stop, M, and_then}
use Rattle.definition.specs.Rules.{Fired, Result, judge}
use Rattle.layout.specs.Sizes.{CAP}
use Rattle.layout.specs.Words.{Keep}
use Rattle.layout.specs.Denotes.{Den, Run}
use Rattle.layout.specs.Room.{Room}
use Rattle.layout.specs.declared.Span.{Span}
use Rattle.layout.specs.declared.State.{State}
use Rattle.layout.proofs.Words.{keep_refl, keep_less, keep_trans}
use Rattle.layout.proofs.Denotes.{base_frame}
use Rattle.judging.specs.declared.Ask.{Ask}
use Rattle.judging.specs.declared.Answer.{Answer}
use Rattle.judging.specs.declared.Bad.{Bad}
use Rattle.judging.specs.declared.Here.{Here}
use Rattle.judging.specs.declared.Stop.TheVariants.{Fail, Spent}
use Rattle.judging.specs.Asking.{here, Asks, Ready}
use Rattle.judging.specs.Nodes.{NodesAt, no_nodes}
use Rattle.judging.specs.Ending.{Step, Landed, Failed, fired, refused, out, RunsR, Judged}
use Rattle.judging.proofs.Nodes.{nodes_frame, nodes_join, nodes_at, ◌+++◌}
use Rattle.judging.proofs.Steps.{NotDone, Came, came, else_ends}

-- ## Room

-- after words were built and units paid
pub room_on : {q w w' : List ℕ} {s : State} {k : ℕ} (s' : State) (k' : ℕ) {h : ℕ} → Room q w s k → Keep s.top h w w' → s.top ≤ s'.top
    → s'.low ≤ s.low → s'.top + 32 * s'.left + k' ≤ s'.low → s'.fresh + 2 * s'.left ≤ CAP → Room q w' s' k'
room_on s' k' r kp up down ft nm = record {
  base = base_frame kp up r.base;
  fits = ft;
  low = omega (arith, r.low, kp.long);
  cap = omega (arith, r.cap, kp.long);
  names = nm;
}

pub room_within : {q w : List ℕ} {s : State} {k : ℕ} → Room q w s k → s.top ≤ length w
room_within r = omega (arith, r.fits, r.low)

-- whoever has room may enter
pub room_ready : {q w : List ℕ} {s : State} {k : ℕ} (g : Span) → Room q w s k → Ready q w s g
room_ready g r = record { base = r.base; fits = omega (arith, r.fits); over = omega (arith, r.fits); low = r.low; cap = r.cap; names = r.names }

-- ## From a rule's start to here: the trees so far, and what stays

pub record Sofar (q w w₁ : List ℕ) (s s₁ : State) (ts : Trees) : Type 0 where
  pub keep : Keep s.top s.low w w₁
  pub up : s.top ≤ s₁.top
  pub down : s₁.low ≤ s.low
  pub less : s₁.left ≤ s.left
  pub nodes : NodesAt q w₁ s₁.top s₁.low s.low ts

pub begin : {q w : List ℕ} {s : State} → Sofar q w w s s leaf
begin = record { keep = keep_refl _ _ _; up = le_refl _; down = le_refl _; less = le_refl _; nodes = no_nodes refl }

-- words were built above the top
pub built : {q w w₁ w₂ : List ℕ} {s s₁ : State} (s₂ : State) {ts : Trees} → Sofar q w w₁ s s₁ ts → Keep s₁.top s₁.low w₁ w₂ → s₁.top ≤ s₂.top
    → s₂.low ≡ s₁.low → s₂.left ≤ s₁.left → Sofar q w w₂ s s₂ ts
built s₂ so kp up lo le = record {
  keep = keep_trans so.keep (keep_less so.up so.down kp);
  up = le_trans so.up up;
  down = omega (arith, so.down);
  less = le_trans le so.less;
  nodes = nodes_at (sym lo) refl (nodes_frame kp up (λ i u v. kp.above i u) so.nodes);
}

-- ## A judgement that was asked on the way

module _ {m : Here} {q w w₁ w₂ : List ℕ} {s s₁ : State} {ts : Trees} {g₁ : Span} {a₁ : Ask} {z : Step} (so : Sofar q w w₁ s s₁ ts)
    (call : Judged m q w₁ w₂ s₁ g₁ a₁ z) {i : Judgement} (asks : Asks q w₁ s₁.top g₁ a₁ i) where
  -- it did not end well
  pub ended : NotDone z → (k : Result → M Fired) → RunsR q w w₂ s z (and_then (judge (here m) i s₁.left s₁.fresh) k)
  ended nd k = record {
    keep = keep_trans so.keep (keep_less so.up so.down (call.run i asks).keep);
    ends = else_ends k (call.run i asks).ends nd;
  }

  pub gave : {r : Answer} → z ≡ Ok r → Came q w₂ s₁ r (judge (here m) i s₁.left s₁.fresh)
  gave d = came (call.run i asks).ends d

  -- it came back
  pub on : {r : Answer} {R : Out Result} (c : Came q w₂ s₁ r R) → Sofar q w w₂ s r.st (ts +++ (c.t & leaf))
  on c =
      let x = c.land in
      let kp = (call.run i asks).keep in
      record {
        keep = keep_trans so.keep (keep_less so.up so.down kp);
        up = le_trans so.up x.up;
        down = le_trans x.down so.down;
        less = le_trans x.less so.less;
        nodes = nodes_join (nodes_frame kp x.up (λ j u v. kp.above j u) so.nodes) x.nodes;
      }

-- ## How a rule ends

pub stopped : {q w w₁ : List ℕ} {s s₁ : State} {ts : Trees} → Sofar q w w₁ s s₁ ts → (R : Out Fired) → R ≡ stop → RunsR q w w₁ s (Err Spent) R
stopped so R e = record { keep = so.keep; ends = rw e out }

pub refuses : {q w w₁ : List ℕ} {s s₁ : State} {ts : Trees} {b : Bad} {x : TypeError} {l : ℕ} → Sofar q w w₁ s s₁ ts → Failed q w₁ b x l
    → (R : Out Fired) → R ≡ fail x l → RunsR q w w₁ s (Err (Fail b)) R
refuses so f R e = record { keep = so.keep; ends = rw e (refused f) }

pub fires : {q w w₁ : List ℕ} {s : State} {ts : Trees} (s₁ : State) (g₁ : Span) (ty : ℕ) (r : Rule) {u : ℕ} {C : Ty} {Δ : Ctx} → Sofar q w w₁ s s₁ ts
    → Room q w₁ s₁ 4 → children ts < 5 → Run q w₁ s₁.top g₁.at g₁.n Δ → Den q w₁ s₁.top ty C
    → (R : Out Fired) → R ≡ done (r, C, Δ, ts) s₁.left s₁.fresh
    → RunsR q w w₁ s (Ok (record { st = s₁; g = g₁; ty = ty; rule = rule_number r; kids = children ts; charge = u })) R
fires {q} {w} {w₁} {s} {ts} s₁ g₁ ty r {u} {C} {Δ} so rm few rn dn R e =
    let a : Answer = record { st = s₁; g = g₁; ty = ty; rule = rule_number r; kids = children ts; charge = u } in
    let y : Landed q w₁ s a 4 C Δ ts s₁.left s₁.fresh =
    record {
      run = rn;
      den = dn;
      nodes = so.nodes;
      left = refl;
      fresh = refl;
      up = so.up;
      down = so.down;
      less = so.less;
      room = rm;
    } in
    record { keep = so.keep; ends = rw e (fired refl refl few y) }
