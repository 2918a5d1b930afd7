-- Stepping through a run: what a charge and a bind come to.
use mathlib.Core.Path.{◌≡◌, refl, subst}
use Prim.Native.Nat.{ℕ, ◌-◌, ◌≤◌, ◌<◌}
use mathlib.Core.Bool.{Bool, true, false, not, ◌||◌}
use native.Mathlib.Nat.{lt_of_not-le}
use native.Mathlib.Decide.{dec_le}
use lib.Dec.{T, leb, le→leb}
use mir.Facts.{no_leb}
use Rattle.definition.specs.Syntax.{pick, TypeError}
use Rattle.definition.specs.Run.{Out, done, fail, stop, M, and_then, ◌>>=◌, charge}

-- ## Tests

pub is_true : (b : Bool) → T b → b ≡ true
is_true true t = refl
is_true false t = absurd t

pub is_false : (b : Bool) → T (not b) → b ≡ false
is_false true t = absurd t
is_false false t = refl

pub neither : (b c : Bool) → (b || c) ≡ false → (b ≡ false) × (c ≡ false)
neither true c e = absurd (subst (λ (b : Bool). T b) e tt)
neither false c e = (refl, e)

pub pick_true : {A : Type 0} {b : Bool} (x y : A) → b ≡ true → pick b x y ≡ x
unfolding pick
pick_true x y e = rw e

pub pick_false : {A : Type 0} {b : Bool} (x y : A) → b ≡ false → pick b x y ≡ y
unfolding pick
pick_false x y e = rw e

-- what both have, the one that is picked has
pub pick_has : {A : Type 0} (P : A → Type 0) (b : Bool) {x y : A} → P x → P y → P (pick b x y)
unfolding pick
pick_has P true h k = h
pick_has P false h k = k

-- ## A charge

pub charge_yes : (c l n : ℕ) → c ≤ l → charge c l n ≡ done tt (l - c) n
unfolding charge
charge_yes c l n h = pick_true _ _ (is_true (leb c l) (le→leb c l h))

pub charge_no : (c l n : ℕ) → l < c → charge c l n ≡ stop
unfolding charge
charge_no c l n h = pick_false _ _ (is_false (leb c l) (no_leb h))

-- a charge and what comes after it: with so much less left, or out of budget
pub charge_then : {A : Type 0} (P : Out A → Type 0) (x : M A) (c l n : ℕ) → (c ≤ l → P (x (l - c) n)) → (l < c → P stop)
    → P ((charge c >>= λ u. x) l n)
unfolding ◌>>=◌ and_then
charge_then P x c l n within past =
    elim (dec_le c l) [
      | yes h ↦ rw (charge_yes c l n h) (within h)
      | no h ↦ rw (charge_no c l n (lt_of_not-le h)) (past (lt_of_not-le h))
    ]

-- ## A bind whose first part is known

pub bind_done : {A B : Type 0} (m : M A) (f : A → M B) (l n : ℕ) {a : A} {l' n' : ℕ} → m l n ≡ done a l' n' → (m >>= f) l n ≡ f a l' n'
unfolding ◌>>=◌ and_then
bind_done m f l n e = rw e

pub bind_fail : {A B : Type 0} (m : M A) (f : A → M B) (l n : ℕ) {e : TypeError} {l' : ℕ} → m l n ≡ fail e l' → (m >>= f) l n ≡ fail e l'
unfolding ◌>>=◌ and_then
bind_fail m f l n e = rw e

pub bind_stop : {A B : Type 0} (m : M A) (f : A → M B) (l n : ℕ) → m l n ≡ stop → (m >>= f) l n ≡ stop
unfolding ◌>>=◌ and_then
bind_stop m f l n e = rw e
