-- Words put among bytes, and words read from them, one after the other.
use mathlib.Core.Path.{◌≡◌, refl, sym, ap, ◌∙◌}
use mathlib.Core.List.{List, [], ◌∷◌, ◌++◌, append_assoc}
use Prim.Native.Nat.{ℕ, zero, suc, ◌+◌, ◌*◌, ◌≤◌, ◌<◌}
use native.Mathlib.Omega.{arith}
use native.Mathlib.Numerals.{add-one}
use lib.ListN.{length, get_or, set, take, drop, length-append}
use lib.Seq.{set_at, drop-nil, drop-cons, drop-drop, take_all, take_at, drop_at, take-add, paste, take-paste, drop-paste}
use Rattle.definition.specs.Host.{word_at, words_of, bytes_of}

-- ## Putting

pub length_bytes : (ws : List ℕ) → length (bytes_of ws) ≡ 4 * length ws
unfolding bytes_of
length_bytes [] = refl
length_bytes (w ∷ ws) = omega (arith, length_bytes ws)

bytes_append : (ws vs : List ℕ) → bytes_of (ws ++ vs) ≡ bytes_of ws ++ bytes_of vs
unfolding bytes_of
bytes_append [] vs = refl
bytes_append (w ∷ ws) vs = rw (bytes_append ws vs)

-- what comes next in s, put behind its first n
paste_more : (d : List ℕ) (at : ℕ) (s : List ℕ) (n m : ℕ) → at + n ≤ length d → n ≤ length s
    → paste (paste d at s n) (at + n) (drop n s) m ≡ paste d at s (n + m)
paste_more d at s n m h k =
    let e : at + n + m ≡ at + (n + m) = omega arith in
    let dp : drop (at + n + m) (paste d at s n) ≡ drop (at + (n + m)) d =
    sym (drop-drop m (at + n) (paste d at s n)) ∙ ap (drop m) (drop-paste d at s n (omega arith) k) ∙ drop-drop m (at + n) d ∙ rw e in
    rw (take-paste d at s n (omega arith) k, dp, take-add n m s)
    (ap (◌++ drop (at + (n + m)) d) (append_assoc (take at d) (take n s) (take m (drop n s))))

bytes_drop : (ws : List ℕ) (i : ℕ) → drop (4 * i) (bytes_of ws) ≡ bytes_of (drop i ws)
unfolding bytes_of
bytes_drop ws zero = refl
bytes_drop [] (suc i) = drop-nil (4 * suc i)
bytes_drop (w ∷ ws) (suc i) =
    let e : 4 * suc i ≡ suc (suc (suc (suc (4 * i)))) = omega arith in
    rw e (bytes_drop ws i)

-- the word i is put behind those before it
pub put_more : (d : List ℕ) (at : ℕ) (ws : List ℕ) (i to : ℕ) {d₁ d₂ : List ℕ} → at + 4 * length ws ≤ length d → i < length ws → to ≡ at + 4 * i
    → d₁ ≡ paste d at (bytes_of ws) (4 * i) → d₂ ≡ paste d₁ to (bytes_of (get_or ws i 0 ∷ [])) 4 → d₂ ≡ paste d at (bytes_of ws) (4 * (i + 1))
unfolding bytes_of
put_more d at ws i to h k e f g =
    let n : drop (4 * i) (bytes_of ws) ≡ bytes_of (get_or ws i 0 ∷ drop (suc i) ws) = bytes_drop ws i ∙ ap bytes_of (drop-cons ws i 0 k) in
    let j : 4 * (i + 1) ≡ 4 * i + 4 = omega arith in
    g ∙ rw (e, f, j) (rw n at (paste_more d at (bytes_of ws) (4 * i) 4 (omega arith) (omega (arith, length_bytes ws))))

-- four numbers, then words behind them
pub put_both : (ns ws d : List ℕ) {d₁ d₂ : List ℕ} → length ns ≡ 4 → 16 + 4 * length ws ≤ length d → d₁ ≡ paste d 0 (bytes_of ns) (4 * length ns)
    → d₂ ≡ paste d₁ 16 (bytes_of ws) (4 * length ws) → d₂ ≡ bytes_of (ns ++ ws) ++ drop (16 + 4 * length ws) d
put_both ns ws d {d₁} {d₂} l h f g =
    let m : ℕ = 4 * length ws in
    let n : length (bytes_of ns) ≡ 16 = omega (arith, length_bytes ns) in
    let i : 4 * length ns ≡ 16 = omega arith in
    let e : d₁ ≡ bytes_of ns ++ drop 16 d = f ∙ rw (i, take_all 16 (bytes_of ns) (omega arith)) in
    let front : take 16 d₁ ≡ bytes_of ns = ap (take 16) e ∙ take_at (bytes_of ns) (drop 16 d) 16 n in
    let back : drop 16 d₁ ≡ drop 16 d = ap (drop 16) e ∙ drop_at (bytes_of ns) (drop 16 d) 16 n in
    let far : drop (16 + m) d₁ ≡ drop (16 + m) d = sym (drop-drop m 16 d₁) ∙ ap (drop m) back ∙ drop-drop m 16 d in
    g ∙ rw (front, far, take_all m (bytes_of ws) (omega (arith, length_bytes ws)), bytes_append ns ws)

-- ## Reading

pub length_words : (b : List ℕ) (n : ℕ) → length (words_of b n) ≡ n
unfolding words_of
length_words b zero = refl
length_words b (suc n) = length-append (words_of b n) (word_at b n ∷ []) ∙ omega (arith, length_words b n)

-- one word more is read
pub read_more : (b ws₀ ws : List ℕ) (i x : ℕ) → i < length ws₀ → ws ≡ words_of b i ++ drop i ws₀ → x ≡ word_at b i
    → set ws i x ≡ words_of b (i + 1) ++ drop (i + 1) ws₀
unfolding words_of
read_more b ws₀ ws i x h e f =
    let c : drop i ws₀ ≡ get_or ws₀ i 0 ∷ drop (suc i) ws₀ = drop-cons ws₀ i 0 h in
    rw (add-one i, e, c, f)
    (set_at (words_of b i) (get_or ws₀ i 0) (drop (suc i) ws₀) (word_at b i) i (length_words b i)
    ∙ sym (append_assoc (words_of b i) (word_at b i ∷ []) (drop (suc i) ws₀)))
