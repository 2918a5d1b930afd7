-- Passing from one state to another: what stays, and how a run that makes a type goes on.
use mathlib.Core.Path.{◌≡◌, refl, ◌∙◌}
use mathlib.Core.List.{List}
use Prim.Native.Nat.{ℕ, ◌+◌, ◌*◌, ◌≤◌}
use native.Mathlib.Nat.{le_refl, le_trans}
use native.Mathlib.Omega.{arith}
use Rattle.definition.specs.Syntax.{Ty}
use Rattle.definition.specs.Run.{Out, done, stop}
use Rattle.layout.specs.States.{raised}
use Rattle.layout.specs.Words.{Keep}
use Rattle.layout.specs.Denotes.{Den}
use Rattle.layout.specs.Room.{Room}
use Rattle.layout.specs.declared.State.{State}
use Rattle.layout.specs.declared.Made.{Made}
use Rattle.layout.specs.declared.Spent.{Spent}
use Rattle.layout.proofs.Words.{keep_refl, keep_trans, keep_less}
use Rattle.layout.proofs.Denotes.{den_frame, base_frame}
use Rattle.substitution.specs.Passing.{pay, Passed, Makes, made, spent}
use Rattle.std.specs.Prelude.{Result, Ok, Err}

-- ## States, one after the other

-- words were written between the top and the nodes, and not for good
pub past_top : {w w' : List ℕ} {s : State} → Keep s.top s.low w w' → Passed w w' s s 0
past_top k = record { keep = k; up = le_refl _; low = refl; fresh = refl; paid = omega arith; built = le_refl _ }

pub here : (w : List ℕ) (s : State) → Passed w w s s 0
here w s = past_top (keep_refl _ _ w)

-- what is kept until s₁ and then from s₁ on is kept
pub keep_on : {w w₁ w₂ : List ℕ} {s s₁ : State} {n : ℕ} → Passed w w₁ s s₁ n → Keep s₁.top s₁.low w₁ w₂ → Keep s.top s.low w w₂
keep_on p k = keep_trans p.keep (keep_less p.up (omega (arith, p.low)) k)

pub then : {w w₁ w₂ : List ℕ} {s s₁ s₂ : State} {n m : ℕ} → Passed w w₁ s s₁ n → Passed w₁ w₂ s₁ s₂ m → Passed w w₂ s s₂ (n + m)
then p r = record {
  keep = keep_on p r.keep;
  up = le_trans p.up r.up;
  low = r.low ∙ p.low;
  fresh = r.fresh ∙ p.fresh;
  paid = omega (arith, p.paid, r.paid);
  built = le_trans r.built p.built;
}

-- what was denoted before is denoted after
pub den_on : {q w w' : List ℕ} {s s' : State} {n r : ℕ} {T : Ty} → Passed w w' s s' n → Den q w s.top r T → Den q w' s'.top r T
den_on p d = den_frame p.keep p.up d

-- of the 32 words that stand ready for a unit, at least 28 are left over once it is paid
pub room_on : {q w w' : List ℕ} {s s' : State} {n k : ℕ} → Passed w w' s s' n → Room q w s k → Room q w' s' (k + 28 * n)
room_on p h = record {
  base = base_frame p.keep p.up h.base;
  fits = omega (arith, p.built, p.paid, p.low, h.fits);
  low = omega (arith, p.low, h.low, p.keep.long);
  cap = omega (arith, h.cap, p.keep.long);
  names = omega (arith, p.fresh, p.paid, h.names);
}

-- ## A call pays one unit, goes on from there, and may build one record

module _ {w w' : List ℕ} {s s' : State} {n : ℕ} (some : 1 ≤ s.left) (p : Passed w w' (pay s) s' n) where
  pub kept : Passed w w' s s' 1
  kept = record {
    keep = p.keep;
    up = p.up;
    low = p.low;
    fresh = p.fresh;
    paid = omega (arith, p.paid);
    built = omega (arith, p.built);
  }

  pub grown : {w'' : List ℕ} → Keep s'.top (s'.top + 4) w' w'' → s'.top + 4 ≤ s'.low → Passed w w'' s (raised s' 4) 1
  grown k l = record {
    keep = keep_on p (keep_less (le_refl _) l k);
    up = omega (arith, p.up);
    low = p.low;
    fresh = p.fresh;
    paid = omega (arith, p.paid);
    built = omega (arith, p.built);
  }

pub room_paid : {q w : List ℕ} {s : State} {k : ℕ} → 1 ≤ s.left → Room q w s k → Room q w (pay s) (k + 32)
room_paid some h = record {
  base = h.base;
  fits = omega (arith, h.fits);
  low = h.low;
  cap = h.cap;
  names = omega (arith, h.names);
}

-- ## How a run ended

-- it came to s' with a type
pub record Reached (q w w' : List ℕ) (s s' : State) (r : ℕ) (R : Out Ty) : Type 0 where
  pub type : Ty
  pub is : R ≡ done type s'.left s.fresh
  pub passed : Passed w w' s s' 1
  pub den : Den q w' s'.top r type

pub reached : {q w w' : List ℕ} {s : State} {m : Made} {z : Result Made Spent} {R : Out Ty} → Makes q w w' s z R → z ≡ Ok m
    → Reached q w w' s m.st m.ty R
reached {q} {w} {w'} {s} {m} h e = go (rw e at h)
  where
    go : {S : Out Ty} → Makes q w w' s (Ok m) S → Reached q w w' s m.st m.ty S
    go (made {T = T} p d) = record { type = T; is = refl; passed = p; den = d }

-- what a caller goes on with: the unit that was paid leaves 28 words more than there were to spare
pub room_after : {q w w' : List ℕ} {s s' : State} {r k : ℕ} {R : Out Ty} → Room q w s k → Reached q w w' s s' r R → Room q w' s' (k + 28)
room_after h y = room_on y.passed h

-- the budget was spent on the way
pub record Ended (w w' : List ℕ) (s : State) (R : Out Ty) : Type 0 where
  pub keep : Keep s.top s.low w w'
  pub is : R ≡ stop

pub ended : {q w w' : List ℕ} {s : State} {z : Result Made Spent} {x : Spent} {R : Out Ty} → Makes q w w' s z R → z ≡ Err x → Ended w w' s R
ended {q} {w} {w'} {s} {x = x} h e = go (rw e at h)
  where
    go : {S : Out Ty} → Makes q w w' s (Err x) S → Ended w w' s S
    go (spent k) = record { keep = k; is = refl }
