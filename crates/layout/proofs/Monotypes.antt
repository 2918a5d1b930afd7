-- Laws of the monotype mark: a word keeps what was put into it, and a word that stays keeps what it kept.
use mathlib.Core.Path.{◌≡◌, refl, ◌∙◌, ap}
use mathlib.Core.Bool.{Bool, true, false}
use mathlib.Core.List.{List}
use Prim.Native.Nat.{ℕ, ◌+◌, ◌-◌, ◌%◌, ◌≤◌, ◌<◌}
use native.Mathlib.Omega.{arith}
use lib.Dec.{leb}
use borrow.Author.Tests.{le-leb, lt-leb, lt-ltb, le-ltb}
use Rattle.definition.specs.Syntax.{pick}
use Rattle.layout.specs.Sizes.{BASE, ENDS, MONO}
use Rattle.layout.specs.Words.{Keep}
use Rattle.layout.specs.Monotypes.{with_mono, number_at, mono_at, mono_of}

module _ (n : ℕ) {b : Bool} where
  pub with_yes : b ≡ true → n + MONO ≡ with_mono n b
  unfolding with_mono pick
  with_yes e = rw e refl

  pub with_no : b ≡ false → n ≡ with_mono n b
  unfolding with_mono pick
  with_no e = rw e refl

number_in : (n : ℕ) (b : Bool) → n < MONO → with_mono n b % MONO ≡ n
unfolding with_mono pick
number_in n true l = omega arith
number_in n false l = omega arith

mono_in : (n : ℕ) (b : Bool) → n < MONO → leb MONO (with_mono n b) ≡ b
unfolding with_mono pick
mono_in n true l = le-leb MONO (n + MONO) (omega arith)
mono_in n false l = lt-leb MONO n l

module _ {v : ℕ} (n : ℕ) (b : Bool) (e : v ≡ with_mono n b) (l : n < MONO) where
  pub kept_number : v % MONO ≡ n
  kept_number = ap (◌% MONO) e ∙ number_in n b l

  pub kept_mono : leb MONO v ≡ b
  kept_mono = ap (leb MONO) e ∙ mono_in n b l

-- where a reference's mark lies
module _ (w : List ℕ) (r : ℕ) where
  pub mono_in_question : r < BASE → mono_at w (ENDS + r) ≡ mono_of w r
  unfolding mono_of pick
  mono_in_question l = rw (lt-ltb r BASE l) refl

  pub mono_in_work : BASE ≤ r → mono_at w (r - BASE) ≡ mono_of w r
  unfolding mono_of pick
  mono_in_work l = rw (le-ltb r BASE l) refl

pub number_stays : {t h i : ℕ} {w w' : List ℕ} → Keep t h w w' → i < t → number_at w i ≡ number_at w' i
number_stays {i = i} kp l = ap (◌% MONO) (kp.below i l)
