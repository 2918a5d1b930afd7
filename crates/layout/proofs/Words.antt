-- Laws of words that stay and words that are put.
use mathlib.Core.Path.{◌≡◌, refl, sym, ◌∙◌}
use mathlib.Core.List.{List}
use Prim.Native.Nat.{ℕ, ◌+◌, ◌≤◌, ◌<◌}
use native.Mathlib.Nat.{le_trans, lt_of_lt_of_le}
use native.Mathlib.Omega.{arith}
use lib.ListN.{length, get_or, set, length-set}
use lib.Seq.{get_or-set_same, get_or-set_other}
use borrow.Author.Count.{below_more}
use Rattle.layout.specs.Words.{Keep, Put2, Put4}

-- ## Words that stay

pub keep_refl : (t h : ℕ) (w : List ℕ) → Keep t h w w
keep_refl t h w = record { long = refl; below = λ i l. refl; above = λ i l. refl }

pub keep_trans : {t h : ℕ} {w w' w'' : List ℕ} → Keep t h w w' → Keep t h w' w'' → Keep t h w w''
keep_trans k l = record { long = k.long ∙ l.long; below = λ i p. k.below i p ∙ l.below i p; above = λ i p. k.above i p ∙ l.above i p }

pub keep_less : {t t' h h' : ℕ} {w w' : List ℕ} → t' ≤ t → h ≤ h' → Keep t h w w' → Keep t' h' w w'
keep_less p r k = record { long = k.long; below = λ i l. k.below i (lt_of_lt_of_le l p); above = λ i l. k.above i (le_trans r l) }

pub keep_set : (t h : ℕ) (w : List ℕ) (i v : ℕ) → t ≤ i → i < h → Keep t h w (set w i v)
keep_set t h w i v p r = record {
  long = sym (length-set w i v);
  below = λ j l. sym (get_or-set_other w i j v 0 (omega arith));
  above = λ j l. sym (get_or-set_other w i j v 0 (omega arith));
}

-- ## Words that are copied, one more at a time
pub copy_more : (from n i : ℕ) {w₀ w : List ℕ} {to : ℕ} → from + n ≤ to → to + n ≤ length w₀ → i < n → Keep to (to + n) w₀ w
    → ((j : ℕ) → j < i → get_or w (to + j) 0 ≡ get_or w₀ (from + j) 0)
    → (j : ℕ) → j < i + 1 → get_or (set w (to + i) (get_or w (from + i) 0)) (to + j) 0 ≡ get_or w₀ (from + j) 0
copy_more from n i {w₀} {w} {to} a b c k h =
    below_more _ i
    (λ j l. get_or-set_other w (to + i) (to + j) (get_or w (from + i) 0) 0 (omega arith) ∙ h j l)
    (get_or-set_same w (to + i) (get_or w (from + i) 0) 0 (omega (arith, k.long)) ∙ sym (k.below (from + i) (omega arith)))

-- ## Words that are put
pub put_two : (w : List ℕ) (i a b : ℕ) → i + 2 ≤ length w → Put2 w (set (set w i a) (i + 1) b) i a b
put_two w i a b h =
    let w₁ : List ℕ = set w i a in
    let l₁ : length w₁ ≡ length w = length-set w i a in
    record {
      keep = keep_trans (keep_set i (i + 2) w i a (omega arith) (omega arith)) (keep_set i (i + 2) w₁ (i + 1) b (omega arith) (omega arith));
      w0 = get_or-set_other w₁ (i + 1) i b 0 (omega arith) ∙ get_or-set_same w i a 0 (omega arith);
      w1 = get_or-set_same w₁ (i + 1) b 0 (omega arith);
    }

pub put_four : (w : List ℕ) (i a b c d : ℕ) → i + 4 ≤ length w → Put4 w (set (set (set (set w i a) (i + 1) b) (i + 2) c) (i + 3) d) i a b c d
put_four w i a b c d h =
    let w₁ : List ℕ = set w i a in
    let w₂ : List ℕ = set w₁ (i + 1) b in
    let w₃ : List ℕ = set w₂ (i + 2) c in
    let w₄ : List ℕ = set w₃ (i + 3) d in
    let l₁ : length w₁ ≡ length w = length-set w i a in
    let l₂ : length w₂ ≡ length w₁ = length-set w₁ (i + 1) b in
    let l₃ : length w₃ ≡ length w₂ = length-set w₂ (i + 2) c in
    record {
      keep = keep_trans (keep_set i (i + 4) w i a (omega arith) (omega arith))
          (keep_trans (keep_set i (i + 4) w₁ (i + 1) b (omega arith) (omega arith))
          (keep_trans (keep_set i (i + 4) w₂ (i + 2) c (omega arith) (omega arith)) (keep_set i (i + 4) w₃ (i + 3) d (omega arith) (omega arith))));
      w0 = get_or-set_other w₃ (i + 3) i d 0 (omega arith) ∙ get_or-set_other w₂ (i + 2) i c 0 (omega arith) ∙ get_or-set_other w₁ (i + 1) i b 0 (omega arith) ∙ get_or-set_same w i a 0 (omega arith);
      w1 = get_or-set_other w₃ (i + 3) (i + 1) d 0 (omega arith) ∙ get_or-set_other w₂ (i + 2) (i + 1) c 0 (omega arith) ∙ get_or-set_same w₁ (i + 1) b 0 (omega arith);
      w2 = get_or-set_other w₃ (i + 3) (i + 2) d 0 (omega arith) ∙ get_or-set_same w₂ (i + 2) c 0 (omega arith);
      w3 = get_or-set_same w₃ (i + 3) d 0 (omega arith);
    }
