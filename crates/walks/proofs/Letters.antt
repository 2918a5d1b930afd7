-- The pairs of letters in work: what stays, what is laid, and how `same_var` goes through them.
use mathlib.Core.Path.{◌≡◌, refl, sym, ap, ap₂, ◌∙◌}
use mathlib.Core.List.{List, ◌∷◌}
use mathlib.Core.Bool.{Bool, true, false, ◌&&◌, ◌||◌}
use Prim.Native.Nat.{ℕ, zero, suc, ◌+◌, ◌-◌, ◌*◌, ◌≤◌, ◌<◌}
use native.Mathlib.Nat.{le_refl}
use native.Mathlib.Omega.{arith}
use lib.Dec.{eqb}
use lib.ListN.{get_or}
use Rattle.definition.specs.Syntax.{pick}
use Rattle.definition.specs.Types.{same_name}
use Rattle.definition.specs.Rules.{same_var}
use Rattle.layout.specs.Words.{Keep, Put2}
use Rattle.layout.proofs.Words.{keep_less}
use Rattle.walks.specs.Letters.{pair, letters_at}

-- ## What stays, and what is laid

-- what lies below the end of the pairs stays: what is held, and the pairs
pub below : (t n : ℕ) {h : ℕ} {w w₁ : List ℕ} → Keep (t + 2 * n) h w w₁ → Keep t h w w₁
below t n k = keep_less (omega arith) (le_refl _) k

pub letters_stay : (t n : ℕ) {h : ℕ} {w w₁ : List ℕ} → Keep (t + 2 * n) h w w₁ → letters_at w t n ≡ letters_at w₁ t n
unfolding letters_at
letters_stay t zero k = refl
letters_stay t (suc n) k =
    ap₂ ◌∷◌ (ap₂ pair (k.below (t + 2 * n) (omega arith)) (k.below (t + 2 * n + 1) (omega arith)))
    (letters_stay t n (keep_less (omega arith) (le_refl _) k))

-- a pair is laid past the others
pub laid : (t n : ℕ) {w w₁ : List ℕ} {a b : ℕ} → Put2 w w₁ (t + 2 * n) a b
    → letters_at w₁ t (n + 1) ≡ pair a b ∷ letters_at w t n
unfolding letters_at
laid t n put =
    let one_more : n + 1 ≡ suc n = omega arith in
    rw one_more (ap₂ ◌∷◌ (ap₂ pair put.w0 put.w1) (sym (letters_stay t n put.keep)))

-- ## Two Vars, pair by pair from the innermost on

-- whether the names of the numbers x and y mean the same by i pairs
abbrev same_by : List ℕ → ℕ → ℕ → ℕ → ℕ → Bool
same_by w t x y i = same_var (letters_at w t i) (record { number = x }) (record { number = y })

-- by n pairs they do where they do by the outermost i of them
pub record Outer (w : List ℕ) (t n x y i : ℕ) : Type 0 where
  pub few : i ≤ n
  pub is : same_by w t x y n ≡ same_by w t x y i

pub both_free : {w : List ℕ} {t n x y i : ℕ} {z : Bool} → Outer w t n x y i → i ≤ 0 → z ≡ eqb x y → z ≡ same_by w t x y n
unfolding same_var letters_at same_name
both_free {i = zero} o h e = e ∙ sym o.is
both_free {i = suc i} o h e = absurd (omega arith)

module _ {w : List ℕ} {t n x y i : ℕ} (o : Outer w t n x y i) (some : 0 < i) where
  -- the names of the innermost of these pairs
  abbrev left : ℕ
  left = get_or w (t + 2 * (i - 1)) 0

  abbrev right : ℕ
  right = get_or w (t + 2 * (i - 1) + 1) 0

  innermost : same_by w t x y n ≡ pick (eqb left x || eqb right y) (eqb left x && eqb right y) (same_by w t x y (i - 1))
  unfolding same_var letters_at same_name
  innermost = let one_less : i ≡ suc (i - 1) = omega arith in o.is ∙ ap (same_by w t x y) one_less ∙ refl

  pub left_bound : {z : Bool} → true ≡ eqb left x → z ≡ eqb right y → z ≡ same_by w t x y n
  unfolding pick
  left_bound e f = f ∙ sym (innermost ∙ rw (sym e) refl)

  pub right_bound : false ≡ eqb left x → true ≡ eqb right y → false ≡ same_by w t x y n
  unfolding pick
  right_bound e f = sym (innermost ∙ rw (sym e, sym f) refl)

  pub neither_bound : false ≡ eqb left x → false ≡ eqb right y → Outer w t n x y (i - 1)
  unfolding pick
  neither_bound e f = record { few = omega (arith, o.few); is = innermost ∙ rw (sym e, sym f) refl }
