-- What is held: in a run, by its code or its form, and through its parts.
use mathlib.Core.Path.{◌≡◌, refl, sym, ◌∙◌, ap}
use mathlib.Core.Logic.{◌⊎◌}
use mathlib.Core.List.{List}
use Prim.Native.Nat.{ℕ, ◌≤◌, ◌<◌}
use native.Mathlib.Omega.{arith}
use Rattle.definition.specs.Syntax.{Ty}
use Rattle.layout.specs.Denotes.{Den}
use Rattle.layout.specs.Room.{Room}
use Rattle.layout.specs.declared.State.{State}
use Rattle.types.specs.Reading.{Held, HeldAs, HeldNamed, Tagged, form_number, FormOf, rank, PartBelow, LeftOf, RightOf, BodyOf}
use Rattle.types.specs.declared.Form.{Form}
use Rattle.types.proofs.Codes.{name_form}
use Rattle.types.proofs.Reading.{arrow_held, forall_held}

-- ## In a run

pub room_held : {q w : List ℕ} {s : State} {k r : ℕ} {T : Ty} → Room q w s k → Den q w s.top r T → Held q w s.top r
room_held m d = record { base = m.base; fits = omega (arith, m.fits, m.low); cap = m.cap; type = _; den = d }

module _ {q w : List ℕ} {t r : ℕ} where
  -- any other reference that denotes a type
  pub held_by : {k : ℕ} {A : Ty} → Held q w t r → Den q w t k A → Held q w t k
  held_by h d = record { base = h.base; fits = h.fits; cap = h.cap; type = _; den = d }

  -- ## By the code

  module _ {k : ℕ} (h : Held q w t r) (c : Tagged q w t r k) where
    pub held_as : (n : ℕ) → k ≡ n → HeldAs q w t r n
    held_as n e = record { held = h; code = sym (c.is h.type h.den) ∙ e }

    pub held_named : 3 ≤ k → (k ≡ 5 → ⊥) → HeldNamed q w t r
    held_named l f = let e = c.is h.type h.den in record { held = h; low = omega arith; other = λ g. f (e ∙ g) }

  -- ## By the form

  module _ {f : Form} (h : Held q w t r) (c : FormOf q w t r f) where
    pub held_arrow : f ≡ Form.Arrow → HeldAs q w t r 5
    held_arrow e = held_as h c 5 (ap form_number e)

    pub held_forall : f ≡ Form.Forall → HeldAs q w t r 6
    held_forall e = held_as h c 6 (ap form_number e)

    pub named_var : (f ≡ Form.Var) ⊎ (f ≡ Form.ETVar) → HeldNamed q w t r
    named_var e = held_named h c (name_form e).0 (λ g. omega (arith, (name_form e).1))

    pub named_forall : f ≡ Form.Forall → HeldNamed q w t r
    named_forall e = held_named h c (omega (arith, ap form_number e)) (λ g. omega (arith, ap form_number e))

  -- ## Parts: each is held, and ranks below its whole

  part_below : {k n : ℕ} {A : Ty} → rank r ≡ n → Held q w t r → PartBelow q w t r k A → (rank k < n) × Held q w t k
  part_below e h p = (omega (arith, p.less), held_by h p.den)

  module _ {k n : ℕ} (e : rank r ≡ n) where
    pub left_below : HeldAs q w t r 5 → LeftOf q w t r k → (rank k < n) × Held q w t k
    left_below h p = part_below e h.held (p.is _ _ (arrow_held h).den)

    pub right_below : HeldAs q w t r 5 → RightOf q w t r k → (rank k < n) × Held q w t k
    right_below h p = part_below e h.held (p.is _ _ (arrow_held h).den)

    pub body_below : HeldAs q w t r 6 → BodyOf q w t r k → (rank k < n) × Held q w t k
    body_below h p = part_below e h.held (p.is _ _ (forall_held h).den)

  pub left_held : {k : ℕ} → HeldAs q w t r 5 → LeftOf q w t r k → Held q w t k
  left_held h p = (left_below refl h p).1

  pub right_held : {k : ℕ} → HeldAs q w t r 5 → RightOf q w t r k → Held q w t k
  right_held h p = (right_below refl h p).1

  pub body_held : {k : ℕ} → HeldAs q w t r 6 → BodyOf q w t r k → Held q w t k
  body_held h p = (body_below refl h p).1
