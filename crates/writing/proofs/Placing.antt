-- Laws of words put at a place.
use mathlib.Core.Path.{◌≡◌, refl, sym, ◌∙◌, ap}
use mathlib.Core.Logic.{◌⊎◌, inl, inr}
use mathlib.Core.Bool.{Bool, true, false}
use mathlib.Core.List.{List, [], ◌∷◌, ◌++◌}
use Prim.Native.Nat.{ℕ, zero, suc, ◌+◌, ◌≤◌, ◌<◌}
use native.Mathlib.Nat.{le_refl}
use native.Mathlib.Numerals.{add-one}
use native.Mathlib.Omega.{arith}
use borrow.Author.Tests.{ltb-true, ltb-false}
use lib.Dec.{ltb}
use lib.ListN.{length, get_or, set, length-set}
use lib.Seq.{get_or-set_same, get_or-set_other, set-get_or, set_comm, sets, ext_get_or}
use Rattle.layout.specs.Words.{Keep}
use Rattle.layout.proofs.Words.{keep_refl, keep_trans, keep_less, keep_set}

pub sets_append : {m : ℕ} (us vs s : List ℕ) (p : ℕ) → m ≡ p + length us → sets s p (us ++ vs) ≡ sets (sets s p us) m vs
sets_append {m} [] vs s p e = let g : p ≡ m = omega arith in ap (λ (i : ℕ). sets s i vs) g
sets_append (u ∷ us) vs s p e = sets_append us vs (set s p u) (suc p) (omega arith)

-- a word, and words past it
pub sets_cons : {s₁ s' : List ℕ} (s : List ℕ) (p a m : ℕ) (vs : List ℕ) → s₁ ≡ set s p a → m ≡ p + 1 → s' ≡ sets s₁ m vs → s' ≡ sets s p (a ∷ vs)
sets_cons s p a m vs e f g = g ∙ ap (λ (x : List ℕ). sets x m vs) e ∙ ap (λ (i : ℕ). sets (set s p a) i vs) (f ∙ add-one p)

-- a word put before others
pub set_before : (vs s : List ℕ) (m p n : ℕ) → p < m → set (sets s m vs) p n ≡ sets (set s p n) m vs
set_before [] s m p n l = refl
set_before (v ∷ vs) s m p n l =
    let c : set (set s m v) p n ≡ set (set s p n) m v = set_comm s m p v n (omega arith) in
    set_before vs (set s m v) (suc m) p n (omega arith) ∙ ap (λ (x : List ℕ). sets x (suc m) vs) c

-- ## Which words stay

pub keep_sets : (vs s : List ℕ) (p z : ℕ) → z ≡ p + length vs → Keep p z s (sets s p vs)
keep_sets [] s p z e = keep_refl p z s
keep_sets (v ∷ vs) s p z e =
    keep_trans (keep_set p z s p v (le_refl p) (omega arith)) (keep_less (omega arith) (le_refl z) (keep_sets vs (set s p v) (suc p) z (omega arith)))

pub cases : (m n : ℕ) → (m < n) ⊎ (n ≤ m)
cases m n = go (ltb m n) refl
  where
    go : (b : Bool) → ltb m n ≡ b → (m < n) ⊎ (n ≤ m)
    go true e = inl (ltb-true m n e)
    go false e = inr (ltb-false m n e)

-- the same word put into both
keep_one : {p h : ℕ} {a b : List ℕ} (v : ℕ) → p < length a → p < h → Keep p h a b → Keep (suc p) h (set a p v) (set b p v)
keep_one {p} {h} {a} {b} v l m k = record {
  long = length-set a p v ∙ k.long ∙ sym (length-set b p v);
  below = λ i j. go i j (cases i p);
  above = λ i j. get_or-set_other a p i v 0 (omega arith) ∙ k.above i j ∙ sym (get_or-set_other b p i v 0 (omega arith));
}
  where
    go : (i : ℕ) → i < suc p → (i < p) ⊎ (p ≤ i) → get_or (set a p v) i 0 ≡ get_or (set b p v) i 0
    go i j (inl x) = get_or-set_other a p i v 0 (omega arith) ∙ k.below i x ∙ sym (get_or-set_other b p i v 0 (omega arith))
    go i j (inr x) =
        let e : i ≡ p = omega arith in
        rw e (get_or-set_same a p v 0 l ∙ sym (get_or-set_same b p v 0 (omega (arith, k.long))))

pub keep_both : (vs : List ℕ) {a b : List ℕ} (p z : ℕ) {h : ℕ} → z ≡ p + length vs → z ≤ length a → z ≤ h → Keep p h a b
    → Keep z h (sets a p vs) (sets b p vs)
keep_both [] p z e l m k = keep_less (omega arith) (le_refl _) k
keep_both (v ∷ vs) {a} p z e l m k =
    keep_both vs (suc p) z (omega arith) (omega (arith, length-set a p v)) m (keep_one v (omega arith) (omega arith) k)

-- where all words stay
pub keep_same : {p : ℕ} {a b : List ℕ} → Keep p p a b → a ≡ b
keep_same {p} {a} {b} k = ext_get_or 0 a b k.long (λ i l. go i (cases i p))
  where
    go : (i : ℕ) → (i < p) ⊎ (p ≤ i) → get_or a i 0 ≡ get_or b i 0
    go i (inl x) = k.below i x
    go i (inr x) = k.above i x

-- ## One by one

-- what was put is read
pub sets_read : (ws s : List ℕ) (p : ℕ) → p + length ws ≤ length s → (i : ℕ) → i < length ws → get_or (sets s p ws) (p + i) 0 ≡ get_or ws i 0
sets_read [] s p r i l = absurd (omega arith)
sets_read (v ∷ vs) s p r zero l =
    let e : p + 0 ≡ p = omega arith in
    rw e (sym ((keep_sets vs (set s p v) (suc p) (suc p + length vs) refl).below p (omega arith)) ∙ get_or-set_same s p v 0 (omega arith))
sets_read (v ∷ vs) s p r (suc i) l =
    let e : p + suc i ≡ suc p + i = omega arith in
    rw e (sets_read vs (set s p v) (suc p) (omega (arith, length-set s p v)) i (omega arith))

-- words that are there already change nothing
sets_same : (ws s : List ℕ) (p : ℕ) → ((i : ℕ) → i < length ws → get_or s (p + i) 0 ≡ get_or ws i 0) → sets s p ws ≡ s
sets_same [] s p f = refl
sets_same (v ∷ vs) s p f =
    let e : p + 0 ≡ p = omega arith in
    let g : get_or s p 0 ≡ v = rw e at (f 0 (omega arith)) in
    ap (λ (x : List ℕ). sets x (suc p) vs) (ap (λ (a : ℕ). set s p a) (sym g) ∙ set-get_or s p 0)
    ∙ sets_same vs s (suc p) (λ i l. let h : p + suc i ≡ suc p + i = omega arith in rw h at (f (suc i) (omega arith)))

-- where all else stays, they were put
pub put_same : {s s' : List ℕ} {p z : ℕ} (ws : List ℕ) → z ≡ p + length ws → z ≤ length s → Keep p z s s'
    → ((i : ℕ) → i < length ws → get_or s' (p + i) 0 ≡ get_or ws i 0) → s' ≡ sets s p ws
put_same {s} {s'} {p} {z} ws e r k f = sym (keep_same (keep_both ws p z e r (omega arith) k) ∙ sets_same ws s' p f)
