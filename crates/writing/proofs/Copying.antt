-- Types that are not walked: Int and Bool, put as their code, and words of the question, copied.
use mathlib.Core.Path.{◌≡◌, refl, sym, ◌∙◌, ap}
use mathlib.Core.Logic.{◌⊎◌}
use mathlib.Core.List.{List, [], ◌∷◌, ◌++◌}
use Prim.Native.Nat.{ℕ, ◌+◌, ◌≤◌, ◌<◌, ◌^◌}
use native.Mathlib.Numerals.{add-one}
use native.Mathlib.Omega.{arith}
use lib.ListN.{length, get_or, set, take}
use lib.Seq.{length-take-le, take-suc, take_all, sets, length-sets}
use Rattle.layout.specs.Sizes.{BASE}
use Rattle.layout.proofs.Denotes.{den_written}
use Rattle.types.specs.Reading.{form_number, FormOf, WordsOf}
use Rattle.types.specs.declared.Form.{Form}
use Rattle.types.proofs.Codes.{base_form}
use Rattle.types.proofs.Words.{ty_words_lem}
use Rattle.writing.specs.Spelling.{RoomAt, PutWords, Writes}
use Rattle.writing.specs.Types.{OfType}
use Rattle.writing.proofs.Placing.{sets_append}
use Rattle.writing.proofs.Steps.{base_words, coded}

-- ## Int and Bool

module _ {q w : List ℕ} {t r k : ℕ} {f : Form} (form : FormOf q w t r f) (h : (f ≡ Form.Int) ⊎ (f ≡ Form.Bool)) (code : k ≡ form_number f) where
  words_code : {ws : List ℕ} → OfType q w t r ws → ws ≡ k ∷ []
  words_code x = x.is ∙ base_words (coded f form code) (omega (arith, base_form h)) x.it x.stands

  pub base_room : {s : List ℕ} {p : ℕ} {ws : List ℕ} → OfType q w t r ws → RoomAt s p ws → (p < length s) × (k < 2 ^ 32)
  base_room x o = (omega (arith, o.room, ap length (words_code x)), omega (arith, base_form h))

  pub writes_base : {s s' : List ℕ} {p : ℕ} → s' ≡ set s p k → Writes (OfType q w t r) s s' p (p + 1)
  writes_base e = record { past = λ ws x o. rw (words_code x) (record { is = e; next = refl }) }

-- ## None, one more, and all

-- the first i words of src were put at a place
pub record PutFirst (src : List ℕ) (s₀ s : List ℕ) (at i : ℕ) : Type 0 where
  pub is : s ≡ sets s₀ at (take i src)
  pub some : i ≤ length src

pub first_none : (src s : List ℕ) (at : ℕ) → PutFirst src s s at 0
first_none src s at = record { is = refl; some = omega arith }

module _ {src s₀ s : List ℕ} {at i : ℕ} (c : PutFirst src s₀ s at i) where
  pub first_length : length s ≡ length s₀
  first_length = ap length c.is ∙ length-sets s₀ at (take i src)

  pub first_more : i < length src → PutFirst src s₀ (set s (at + i) (get_or src i 0)) at (i + 1)
  first_more l =
      let us : List ℕ = take i src in
      let v : ℕ = get_or src i 0 in
      let n : length us ≡ i = length-take-le i src c.some in
      let e : take (i + 1) src ≡ us ++ (v ∷ []) = ap (λ (k : ℕ). take k src) (add-one i) ∙ take-suc src i 0 l in
      record {
        is = ap (λ (x : List ℕ). set x (at + i) v) c.is ∙ sym (sets_append us (v ∷ []) s₀ at (ap (λ (k : ℕ). at + k) (sym n)))
            ∙ ap (λ (x : List ℕ). sets s₀ at x) (sym e);
        some = omega arith;
      }

  pub first_all : length src ≤ i → PutWords s₀ s at src (at + length src)
  first_all l = record { is = c.is ∙ ap (λ (x : List ℕ). sets s₀ at x) (take_all i src l); next = refl }

-- ## A type in the question

module _ {q w : List ℕ} {t r : ℕ} {vs : List ℕ} (l : WordsOf q w t r vs) (h : r < BASE) where
  -- the words that are lent are the type's
  words_are : {ws : List ℕ} → OfType q w t r ws → vs ≡ ws
  words_are x = l.in_question h x.it x.stands ∙ ty_words_lem (den_written h x.stands) ∙ sym x.is

  pub copy_room : {s : List ℕ} {p : ℕ} {ws : List ℕ} → OfType q w t r ws → RoomAt s p ws → p + length vs ≤ length s
  copy_room x o = omega (arith, ap length (words_are x), o.room)

  pub writes_copied : {s s' : List ℕ} {p z : ℕ} → PutWords s s' p vs z → Writes (OfType q w t r) s s' p z
  writes_copied c = record { past = λ ws x o. rw (words_are x) at c }
