-- What a charge tells: it was paid, or it would pass the budget.
use mathlib.Core.Path.{◌≡◌, refl}
use Prim.Native.Nat.{ℕ, ◌≤◌, ◌<◌}
use Rattle.layout.specs.States.{paid, Charges, on, unpaid}
use Rattle.layout.specs.declared.State.{State}
use Rattle.layout.specs.declared.Spent.{Spent}
use Rattle.std.specs.Prelude.{Result, Ok, Err}

pub record IsPaid (s : State) (c : ℕ) (p : State) : Type 0 where
  pub is : p ≡ paid s c
  pub enough : c ≤ s.left

pub is_paid : {s p : State} {c : ℕ} {z : Result State Spent} → Charges s c z → z ≡ Ok p → IsPaid s c p
is_paid {s} {p} {c} h e = go (rw e at h)
  where
    go : {r : State} → Charges s c (Ok r) → IsPaid s c r
    go (on l) = record { is = refl; enough = l }

pub not_paid : {s : State} {c : ℕ} {z : Result State Spent} {x : Spent} → Charges s c z → z ≡ Err x → s.left < c
not_paid {s} {c} {x = x} h e = go (rw e at h)
  where
    go : Charges s c (Err x) → s.left < c
    go (unpaid l) = l
