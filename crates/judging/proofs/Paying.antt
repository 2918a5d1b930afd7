-- What entering and leaving pay.
use mathlib.Core.Path.{◌≡◌, refl}
use mathlib.Core.List.{List}
use Prim.Native.Nat.{ℕ, ◌+◌, ◌-◌, ◌≤◌}
use native.Mathlib.Nat.{le_refl}
use native.Mathlib.Omega.{arith}
use Rattle.std.specs.Prelude.{Result, Ok, Err}
use Rattle.layout.specs.Words.{Keep}
use Rattle.layout.specs.States.{lowered, Charges}
use Rattle.layout.specs.declared.Spent as layout
use Rattle.layout.specs.declared.Span.{Span}
use Rattle.layout.specs.declared.State.{State}
use Rattle.layout.proofs.States.{is_paid, not_paid}
use Rattle.layout.proofs.Words.{keep_less}
use Rattle.judging.specs.Leaving.{EnteredBy, entered, unpaid, ConcludePre, Concludes, unpaid_out, wrote, Left, concluded, failed_on, ran_out_on}
use Rattle.judging.specs.Nodes.{NodeWords}
use Rattle.judging.specs.declared.Answer.{Answer}
use Rattle.judging.specs.declared.Ask.{Ask}
use Rattle.judging.specs.declared.Bad.{Bad}
use Rattle.judging.specs.declared.Stop.{Stop}
use Rattle.judging.specs.declared.Stop.TheVariants.{Fail, Spent}
use Rattle.judging.specs.Ending.{Step}

module _ {s : State} {g : Span} {z : Result State layout.Spent} (c : Charges s (g.n + 1) z) where
  pub enter_spent : {x : layout.Spent} → z ≡ Err x → EnteredBy s g (Err x)
  enter_spent e = let l = not_paid c e in unpaid (omega arith)

  pub enter_in : {p i : State} → z ≡ Ok p → i ≡ lowered p 12 → EnteredBy s g (Ok i)
  enter_in e f = let x = is_paid c e in let l = x.enough in rw (f, x.is) (entered (omega arith))

module _ {w : List ℕ} {s : State} {g : Span} {k : Ask} {a : Answer} {z : Result State layout.Spent} (c : Charges a.st a.g.n z) where
  pub conclude_spent : {x : layout.Spent} → z ≡ Err x → Concludes w w s g k a (Err Spent)
  conclude_spent e = unpaid_out (not_paid c e) refl

  module _ {p : State} (e : z ≡ Ok p) where
    -- no more is left than there was
    pub conclude_less : ConcludePre w s g k a → p.left ≤ s.left
    conclude_less pre = let x = is_paid c e in rw x.is (omega (arith, pre.less))

    pub conclude_done : {w' : List ℕ} {u : ℕ} → ConcludePre w s g k a → u ≡ s.left - p.left → Keep (s.low - 12) (s.low - 12 + 12) w w'
        → NodeWords w' (s.low - 12) a.rule a.kids g k a.g a.ty
        → Concludes w w' s g k a (Ok (record { st = p; g = a.g; ty = a.ty; rule = a.rule; kids = a.kids; charge = u }))
    conclude_done pre f kp nw =
        let x = is_paid c e in
        let d = pre.node in
        rw (f, x.is) (wrote x.enough (keep_less (le_refl _) (omega arith) kp) nw)

-- ## What became of the rule

-- which Stop an Err holds
pub is_err : {z : Step} {x y : Stop} → z ≡ Err x → x ≡ y → z ≡ Err y
is_err d e = rw e at d

module _ {w : List ℕ} {s : State} {g : Span} {k : Ask} {z : Step} where
  pub leave_conclude : {a : Answer} {w' : List ℕ} {y : Step} → z ≡ Ok a → Concludes w w' s g k a y → Left w w' s g k z y
  leave_conclude d h = rw d (concluded h)

  pub leave_fail : {b : Bad} {u : ℕ} → z ≡ Err (Fail b) → u ≡ s.left - b.st.left
      → Left w w s g k z (Err (Fail (record { st = b.st; code = b.code; name = b.name; shown = b.shown; charge = u })))
  leave_fail d f = rw (d, f) (failed_on refl)

  pub leave_spent : z ≡ Err Spent → Left w w s g k z (Err Spent)
  leave_spent d = rw d (ran_out_on refl)
