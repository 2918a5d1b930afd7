-- Words under labels: their length, putting together and taking apart.
use mathlib.Core.Path.{◌≡◌, refl, sym, ap, ◌∙◌}
use Prim.Native.Nat.{ℕ, suc}
use mathlib.Core.List.{List, [], ◌∷◌, ◌++◌}
use lib.ListN.{length}
use Rattle.definition.specs.Syntax
use Rattle.alike.specs.Alike.{Label, the, section, Each, none, more, Alike}

module _ {R : Label → ℕ → ℕ → Type 0} where
  pub length_l : {s : List Label} {u u' : List ℕ} → Each R s u u' → length u ≡ length s
  length_l none = refl
  length_l (more w e) = ap suc (length_l e)

  pub length_r : {s : List Label} {u u' : List ℕ} → Each R s u u' → length u' ≡ length s
  length_r none = refl
  length_r (more w e) = ap suc (length_r e)

  pub same_length : {s : List Label} {u u' : List ℕ} → Each R s u u' → length u ≡ length u'
  same_length e = length_l e ∙ sym (length_r e)

  pub join_e : {s t : List Label} {u u' v v' : List ℕ} → Each R s u u' → Each R t v v' → Each R (s ++ t) (u ++ v) (u' ++ v')
  join_e none q = q
  join_e (more w p) q = more w (join_e p q)

pub data InTwo (R : Label → ℕ → ℕ → Type 0) (s t : List Label) : List ℕ → List ℕ → Type 0 where
  parts : {u u' v v' : List ℕ} → Each R s u u' → Each R t v v' → InTwo R s t (u ++ v) (u' ++ v')

module _ {R : Label → ℕ → ℕ → Type 0} where
  first_e : {k : Label} {w w' : ℕ} {s t : List Label} {u u' : List ℕ} → R k w w' → InTwo R s t u u' → InTwo R (k ∷ s) t (w ∷ u) (w' ∷ u')
  first_e x (parts p q) = parts (more x p) q

  pub split_e : (s : List Label) {t : List Label} {u u' : List ℕ} → Each R (s ++ t) u u' → InTwo R s t u u'
  split_e [] e = parts none e
  split_e (k ∷ s) (more x e) = first_e x (split_e s e)

-- ## Making words that are alike, from left to right

module _ {R : Label → ℕ → ℕ → Type 0} {Is : List Label → Type 0} where
  pub done : Is [] → Alike R Is [] []
  done f = record { labels = []; format = f; words = none }

  pub under : {w w' : ℕ} {u u' : List ℕ} (k : Label) → R k w w' → Alike R (λ s. Is (k ∷ s)) u u' → Alike R Is (w ∷ u) (w' ∷ u')
  under k x a = record { labels = k ∷ a.labels; format = a.format; words = more x a.words }

  pub item : {Is₁ : List Label → Type 0} {u u' : List ℕ} → ((s : List Label) → Is₁ s → Is s) → Alike R Is₁ u u' → Alike R Is u u'
  item f a = record { labels = a.labels; format = f a.labels a.format; words = a.words }

  pub join : {Is₁ : List Label → Type 0} {u u' v v' : List ℕ} (b : Alike R Is₁ u u') → Alike R (λ t. Is (b.labels ++ t)) v v'
      → Alike R Is (u ++ v) (u' ++ v')
  join b a = record { labels = b.labels ++ a.labels; format = a.format; words = join_e b.words a.words }

-- a section, with its count
module _ {R : Label → ℕ → ℕ → Type 0} (same : (n : ℕ) → R (the n) n n) {Is₁ : List Label → Type 0} {u u' : List ℕ} (b : Alike R Is₁ u u') where
  counts : R (the (length b.labels)) (length u) (length u')
  counts = rw (length_l b.words, length_r b.words) (same (length b.labels))

  pub sect : {Is : List Label → Type 0} {v v' : List ℕ} → Alike R (λ t. Is (section b.labels ++ t)) v v'
      → Alike R Is (Syntax.section u ++ v) (Syntax.section u' ++ v')
  unfolding Syntax.section
  sect a = under _ counts (join b a)

  pub last_sect : {Is : List Label → Type 0} → Is (section b.labels) → Alike R Is (Syntax.section u) (Syntax.section u')
  unfolding Syntax.section
  last_sect f = under _ counts (record { labels = b.labels; format = f; words = b.words })
