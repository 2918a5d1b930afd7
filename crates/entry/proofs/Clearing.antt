-- Words that are zero already, and words that are made zero.
use mathlib.Core.Path.{◌≡◌, sym, ap, ◌∙◌}
use mathlib.Core.List.{List, ◌++◌, append_assoc}
use Prim.Native.Nat.{ℕ, ◌+◌, ◌-◌, ◌≤◌, ◌<◌}
use native.Mathlib.Omega.{arith}
use lib.Bits.{bit_or, or_zero_l, or_add_and, and_le_l, and_le_r}
use lib.ListN.{length, get_or, get_or-replicate, set, take, drop, replicate, length-append, length-drop, length-replicate, replicate-append-replicate}
use lib.Seq.{set-get_or, length-take-le, take_at, drop_at, drop-drop}
use borrow.Author.Fill.{fill_more}

-- bits that come to 0 were 0
pub no_bits : (a b : ℕ) → bit_or a b ≡ 0 → (a ≡ 0) × (b ≡ 0)
no_bits a b e =
    let s = or_add_and a b in
    let l = and_le_l a b in
    let r = and_le_r a b in
    (omega arith, omega arith)

pub zero_bits : (w : List ℕ) (i b : ℕ) → i < length w → b ≡ 0 → w ≡ replicate (length w) 0 → bit_or b (get_or w i 0) ≡ 0
zero_bits w i b h z e =
    ap (λ (k : ℕ). bit_or k (get_or w i 0)) z ∙ or_zero_l (get_or w i 0) ∙ ap (λ (l : List ℕ). get_or l i 0) e ∙ get_or-replicate (length w) i 0 0 h

-- one zero more
pub zero_more : (l : List ℕ) (i : ℕ) → i < length l → get_or l i 0 ≡ 0 → l ≡ replicate i 0 ++ drop i l → l ≡ replicate (i + 1) 0 ++ drop (i + 1) l
zero_more l i h e f = sym (set-get_or l i 0) ∙ ap (set l i) e ∙ ap (λ (k : List ℕ). set k i 0) f ∙ fill_more i 0 l h

-- ## From the front, part by part

-- w is w₀ with its first i words made zero
pub record Front (w₀ w : List ℕ) (i : ℕ) : Type 0 where
  pub long : length w ≡ length w₀
  pub is : w ≡ replicate i 0 ++ drop i w₀

front_long : (w₀ : List ℕ) (i : ℕ) → i ≤ length w₀ → length (replicate i 0 ++ drop i w₀) ≡ length w₀
front_long w₀ i h =
    let zeros : List ℕ = replicate i 0 in
    let l : length (zeros ++ drop i w₀) ≡ length zeros + length (drop i w₀) = length-append zeros (drop i w₀) in
    let r : length zeros ≡ i = length-replicate i 0 in
    omega (arith, l, r, length-drop i w₀)

-- the words after them, up to e, are made zero too
module _ {w₀ w : List ℕ} {i : ℕ} (front : Front w₀ w i) (e : ℕ) (low : i ≤ e) (high : e ≤ length w₀) where
  abbrev zeros : List ℕ
  zeros = replicate i 0

  zeros_long : length zeros ≡ i
  zeros_long = length-replicate i 0

  rest : drop i w ≡ drop i w₀
  rest = ap (drop i) front.is ∙ drop_at zeros (drop i w₀) i zeros_long

  pub part_long : length (take (e - i) (drop i w)) ≡ e - i
  part_long = length-take-le (e - i) (drop i w) (rw rest (rw (length-drop i w₀) (omega arith)))

  pub front_more : (v : List ℕ) → v ≡ replicate (length (take (e - i) (drop i w))) 0 → Front w₀ (take i w ++ (v ++ drop (e - i) (drop i w))) e
  front_more v is =
      let k : i + (e - i) ≡ e = omega arith in
      let first : take i w ≡ zeros = ap (take i) front.is ∙ take_at zeros (drop i w₀) i zeros_long in
      let mid : v ≡ replicate (e - i) 0 = is ∙ ap (λ (j : ℕ). replicate j 0) part_long in
      let all : take i w ++ (v ++ drop (e - i) (drop i w)) ≡ replicate e 0 ++ drop e w₀
      = rw (first, rest, mid, drop-drop (e - i) i w₀, k)
      (sym (append_assoc zeros (replicate (e - i) 0) (drop e w₀)) ∙ ap (◌++ drop e w₀) (replicate-append-replicate i (e - i) 0 ∙ ap (λ (j : ℕ). replicate j 0) k)) in
      record { long = ap (λ (l : List ℕ). length l) all ∙ front_long w₀ e high; is = all }
