-- Writing a type: what waits, and one step.
use Rattle.std.specs.Prelude.{◌≡◌, Option, List, [], ◌++◌, ℕ, ◌+◌, ◌≤◌, ◌<◌, length, get_or}
use Rattle.std.proofs.lemmas.List.Edits.{sets}
use Rattle.definition.specs.Syntax.{Ty, ty_words}
use Rattle.layout.specs.Places.{size}
use Rattle.layout.specs.Words.{Keep}
use Rattle.layout.specs.Denotes.{Den}
use Rattle.writing.specs.Spelling.{Spells, OrNone, Ground}
use Rattle.writing.specs.declared.Pen.{Pen}

abbrev pub OfType : List ℕ → List ℕ → ℕ → ℕ → List ℕ → Type 0
OfType q w t r = Spells (Den q w t r) ty_words

-- a type, or a part that is not used
abbrev pub OfPart : List ℕ → List ℕ → ℕ → Option ℕ → List ℕ → Type 0
OfPart q w t = OrNone (OfType q w t)

-- references wait in s from low to end for the types whose words are ws
pub data Waits (q w : List ℕ) (t : ℕ) (s : List ℕ) : ℕ → ℕ → List ℕ → Type 0 where
  no_more : {low end : ℕ} → low ≡ end → Waits q w t s low end []
  more : {low end : ℕ} {T : Ty} {vs ws : List ℕ} → Den q w t (get_or s low 0) T → Waits q w t s (low + 1) end vs → ws ≡ ty_words T ++ vs
      → Waits q w t s low end ws

-- what a step needs: the reference that waits at low, and room for its words up to there
pub record Waiting (q w : List ℕ) (t : ℕ) (s : List ℕ) (p low : ℕ) : Type 0 where
  pub ground : Ground q w t
  pub within : low < length s
  pub type : Ty
  pub den : Den q w t (get_or s low 0) type
  pub room : p + size type ≤ low + 1

-- a step: the reference at low was taken, its first words were put at p, its parts wait for the others
pub record Stepped (q w : List ℕ) (t : ℕ) (s s' : List ℕ) (p low : ℕ) (T : Ty) (z : Pen) : Type 0 where
  pub head : List ℕ
  pub tail : List ℕ
  pub is : ty_words T ≡ head ++ tail
  pub some : 1 ≤ length head
  pub at_is : z.at ≡ p + length head
  pub keep : Keep z.at (low + 1) (sets s p head) s'
  pub waits : Waits q w t s' z.low (low + 1) tail

pub record Steps (q w : List ℕ) (t : ℕ) (s s' : List ℕ) (p low : ℕ) (z : Pen) : Type 0 where
  pub is : (T : Ty) → Den q w t (get_or s low 0) T → p + size T ≤ low + 1 → Stepped q w t s s' p low T z
