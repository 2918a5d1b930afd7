-- The words that a type fills in the question are its words.
use mathlib.Core.Path.{◌≡◌, refl, ◌∙◌, ap}
use mathlib.Core.List.{List, ◌∷◌, ◌++◌}
use Prim.Native.Nat.{ℕ, ◌+◌, ◌<◌}
use native.Mathlib.Numerals.{add-one, one-add}
use native.Mathlib.Omega.{arith}
use lib.ListN.{length, get_or, take, drop}
use lib.Seq.{drop-cons, drop-drop, take-add}
use Rattle.definition.specs.Syntax.{Ty, ty_words}
use Rattle.layout.specs.Places.{size, TyAt, int_at, bool_at, var_at, etvar_at, arrow_at, forall_at}

-- n words from place p on, of which the first is v
front : (q : List ℕ) (p n v : ℕ) → p < length q → get_or q p 0 ≡ v → take (1 + n) (drop p q) ≡ v ∷ take n (drop (p + 1) q)
front q p n v h e = rw (one-add, add-one, drop-cons q p 0, e) refl

-- words from place p on, in two runs of which the second begins at m
join : (q : List ℕ) (p m a b : ℕ) → p + a ≡ m → take (a + b) (drop p q) ≡ take a (drop p q) ++ take b (drop m q)
join q p m a b e = rw (take-add, drop-drop, e) refl

pub ty_words_lem : {q : List ℕ} {p : ℕ} {T : Ty} → TyAt q p T → take (size T) (drop p q) ≡ ty_words T
unfolding ty_words
ty_words_lem (int_at c) = front _ _ 0 1 c.within c.is
ty_words_lem (bool_at c) = front _ _ 0 2 c.within c.is
ty_words_lem (var_at c n) = front _ _ 1 3 c.within c.is ∙ ap (λ ws. 3 ∷ ws) (front _ _ 0 _ n.within n.is)
ty_words_lem (etvar_at c n) = front _ _ 1 4 c.within c.is ∙ ap (λ ws. 4 ∷ ws) (front _ _ 0 _ n.within n.is)
ty_words_lem {q} (arrow_at {p} {m} {A} {B} c d e f) =
    let s : 1 + size A + size B ≡ 1 + (size A + size B) = omega arith in
    rw (s, front q p (size A + size B) 5 c.within c.is, join q (p + 1) m (size A) (size B) e, ty_words_lem d, ty_words_lem f) refl
ty_words_lem {q} (forall_at {p} {a} {A} c n d) =
    let s : 2 + size A ≡ 1 + (1 + size A) = omega arith in
    let z : p + 1 + 1 ≡ p + 2 = omega arith in
    rw (s, front q p (1 + size A) 6 c.within c.is, front q (p + 1) (size A) a.number n.within n.is, z, ty_words_lem d) refl
