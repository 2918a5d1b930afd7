-- Decimal numbers by their last digit, a line by its first number, and bytes written one after the other.
use mathlib.Core.Path.{◌≡◌, refl, sym, ap, ◌∙◌}
use mathlib.Core.List.{List, [], ◌∷◌, ◌++◌, append_assoc, append-nil}
use Prim.Native.Nat.{ℕ, zero, suc, ◌+◌, ◌-◌, ◌*◌, ◌/◌, ◌%◌, ◌^◌, ◌≤◌, ◌<◌}
use native.Mathlib.Omega.{arith}
use native.Mathlib.Nat.{pow-suc, one-le-pow, pow-le-pow_right, mod-eq_of_lt, lt_of_not-le}
use native.Mathlib.Decide.{dec_le}
use native.Mathlib.Numerals.{add-one, sub-one}
use borrow.Author.Tests.{lt-ltb, le-ltb}
use lib.ListN.{length, get_or, set, take, drop, length-append, drop_of_length-le}
use lib.Seq.{length-take-le, take-length, take-suc-set, take_at, drop-cons}
use Rattle.io.specs.Digits.{last_digits, IsDigitCount}
use Rattle.lines.specs.Lines.{decimal_to, decimal, line_of, lines_compute, PutBytes}

-- ## Decimal numbers

-- the depth does not matter
decimal_to_lem : (d e n : ℕ) → n < d → n < e → decimal_to d n ≡ decimal_to e n
unfolding decimal_to
decimal_to_lem zero e n h k = absurd (omega arith)
decimal_to_lem (suc d) zero n h k = absurd (omega arith)
decimal_to_lem (suc d) (suc e) n h k =
    elim (dec_le 10 n) [
      | yes t ↦ rw (decimal_to, le-ltb n 10 t, decimal_to_lem d e (n / 10) (omega arith) (omega arith))
      | no t ↦ rw (decimal_to, lt-ltb n 10 (lt_of_not-le t))
    ]

decimal_one : (n : ℕ) → n < 10 → decimal n ≡ (48 + n) ∷ []
unfolding decimal decimal_to
decimal_one n h = rw (decimal_to, lt-ltb n 10 h)

decimal_more : (n : ℕ) → 10 ≤ n → decimal n ≡ decimal (n / 10) ++ ((48 + n % 10) ∷ [])
unfolding decimal decimal_to
decimal_more n h = rw (decimal_to, le-ltb n 10 h, decimal_to_lem n (suc (n / 10)) (n / 10) (omega arith) (omega arith))

-- the kit's digits, the fewest that hold n, are these
fewest_decimal : (k n : ℕ) → IsDigitCount 10 1 n k → last_digits 10 k n ≡ decimal n
fewest_decimal zero n f = absurd (omega (arith, f.0))
fewest_decimal (suc zero) n f = rw (lt-ltb (n % 10) 10 (omega arith), decimal_one n f.1, mod-eq_of_lt f.1)
fewest_decimal (suc (suc k)) n f =
    let low : 10 ^ suc k ≤ n = simp sub-one at (f.2 (omega arith)) in
    let up : 10 ^ suc (suc k) ≡ 10 ^ suc k * 10 = pow-suc 10 (suc k) in
    let down : 10 ^ suc k ≡ 10 ^ k * 10 = pow-suc 10 k in
    let one : 1 ≤ 10 ^ k = one-le-pow k 10 (omega arith) in
    let rest : IsDigitCount 10 1 (n / 10) (suc k) = (omega arith, omega arith, λ _. simp sub-one (omega arith)) in
    rw (lt-ltb (n % 10) 10 (omega arith), decimal_more n (omega arith), fewest_decimal (suc k) (n / 10) rest)

pub spelt : (k n : ℕ) (s : List ℕ) → IsDigitCount 10 1 n k → take k s ≡ last_digits 10 k n → take k s ≡ decimal n
spelt k n s f e = e ∙ fewest_decimal k n f

-- a word has ten digits at most
pub fewest_ten : (k n : ℕ) → n < 4294967296 → IsDigitCount 10 1 n k → k ≤ 10
fewest_ten k n h f =
    elim (dec_le k 10) [
      | yes t ↦ t
      | no t ↦ absurd (omega (arith, f.2 (omega arith), pow-le-pow_right {n = 10} (omega arith) {i = 10} {j = k - 1} (omega arith)))
    ]

-- ## Bytes written

pub wrote_none : (s : List ℕ) (p : ℕ) → PutBytes s s p [] p
wrote_none s p = record { is = sym (append-nil (take p s)); next = omega arith }

pub wrote_then : {s s₁ s₂ : List ℕ} {p y z : ℕ} (bs cs : List ℕ) → PutBytes s s₁ p bs y → PutBytes s₁ s₂ y cs z → PutBytes s s₂ p (bs ++ cs) z
wrote_then {s} {p = p} bs cs a b = record {
  is = b.is ∙ ap (◌++ cs) a.is ∙ append_assoc (take p s) bs cs;
  next = omega (arith, a.next, b.next, length-append bs cs);
}

pub wrote_byte : {s s' : List ℕ} {p z : ℕ} (bs : List ℕ) (b : ℕ) → PutBytes s s' p bs z → z < length s' → PutBytes s (set s' z b) p (bs ++ (b ∷ [])) (z + 1)
wrote_byte {s' = s'} {z = z} bs b w h = wrote_then bs (b ∷ []) w (record { is = rw (add-one z) (take-suc-set s' z b h); next = omega arith })

-- the first n bytes of t copied to the place p, then the byte b
pub wrote_number : {s ys ds : List ℕ} {n : ℕ} (p b : ℕ) (t mid rest : List ℕ) → p ≤ length s → n ≡ length (take n t) → take n t ≡ ds
    → ys ≡ take (length (take n t)) (take n t) ++ mid → p + n < length (take p s ++ (ys ++ rest))
    → PutBytes s (set (take p s ++ (ys ++ rest)) (p + n) b) p (ds ++ (b ∷ [])) (p + n + 1)
wrote_number {s} {ys} {ds} {n} p b t mid rest h l d e i =
    let k : length ds ≡ n = rw d at (sym l) in
    let j : length (take p s ++ ds) ≡ p + n = length-append (take p s) ds ∙ omega (arith, length-take-le p s h) in
    let c : take p s ++ (ys ++ rest) ≡ (take p s ++ ds) ++ (mid ++ rest) =
    rw (e, take-length, d, append_assoc ds mid rest) (sym (append_assoc (take p s) ds (mid ++ rest))) in
    wrote_byte ds b (record { is = ap (take (p + n)) c ∙ take_at (take p s ++ ds) (mid ++ rest) (p + n) j; next = omega arith }) i

-- all that was copied
pub all_copied : {ys u : List ℕ} → ys ≡ u → ys ≡ take (length u) u ++ []
all_copied {u = u} e = e ∙ sym (append-nil u) ∙ ap (◌++ []) (sym (take-length u))

-- ## Lines, written from the number i on: the last of them, and those before it

module _ (last : ℕ) where
  line_cons : (w : ℕ) (ws : List ℕ) → line_of (w ∷ (ws ++ (last ∷ []))) ≡ (decimal w ++ (32 ∷ [])) ++ line_of (ws ++ (last ∷ []))
  unfolding line_of
  line_cons w [] = sym (append_assoc (decimal w) (32 ∷ []) (line_of (last ∷ [])))
  line_cons w (v ∷ ws) = sym (append_assoc (decimal w) (32 ∷ []) (line_of (v ∷ (ws ++ (last ∷ [])))))

  module _ {s s₁ : List ℕ} {p y : ℕ} (rest : List ℕ) (i : ℕ) where
    pub line_last : length rest ≤ i → PutBytes s s₁ p (decimal last ++ (10 ∷ [])) y → PutBytes s s₁ p (line_of (drop i rest ++ (last ∷ []))) y
    unfolding line_of
    line_last h w = rw (drop_of_length-le rest {i = i} h) w

    pub line_more : {s₂ : List ℕ} {z : ℕ} → i < length rest → PutBytes s s₁ p (decimal (get_or rest i 0) ++ (32 ∷ [])) y
        → PutBytes s₁ s₂ y (line_of (drop (i + 1) rest ++ (last ∷ []))) z → PutBytes s s₂ p (line_of (drop i rest ++ (last ∷ []))) z
    line_more h w k =
        rw (drop-cons rest i 0 h, line_cons (get_or rest i 0) (drop (suc i) rest)) (wrote_then _ _ w (rw add-one at k))

pub line_none : {s s₁ : List ℕ} {p y : ℕ} (ws : List ℕ) → length ws ≡ 0 → PutBytes s s₁ p (10 ∷ []) y → PutBytes s s₁ p (line_of ws) y
unfolding line_of
line_none [] h w = w
line_none (v ∷ ws) h w = absurd (omega arith)

-- case (a)'s first line, and the least and the largest word, computed
pub computed : (line_of (0 ∷ 0 ∷ 13 ∷ 2 ∷ []) ≡ 48 ∷ 32 ∷ 48 ∷ 32 ∷ 49 ∷ 51 ∷ 32 ∷ 50 ∷ 10 ∷ []) × (decimal 0 ≡ 48 ∷ [])
    × (decimal 4294967295 ≡ 52 ∷ 50 ∷ 57 ∷ 52 ∷ 57 ∷ 54 ∷ 55 ∷ 50 ∷ 57 ∷ 53 ∷ [])
unfolding lines_compute
computed = (refl, refl, refl)
