-- What stands for words of the report: how long the words are, and that they are written.
use Rattle.std.specs.Prelude.{◌≡◌, Option, Some, None, List, [], ◌++◌, ℕ, ◌+◌, ◌≤◌, min, length}
use Rattle.std.proofs.lemmas.List.Edits.{sets}
use Rattle.definition.specs.Syntax.{section}
use Rattle.layout.specs.Sizes.{CAP}
use Rattle.layout.specs.Denotes.{Base}

-- ## What stands for words

abbrev pub Spelling : Type 1
Spelling = List ℕ → Type 0

-- what stands somewhere, by its words
pub record Spells {X : Type 0} (Stands : X → Type 0) (words_of : X → List ℕ) (ws : List ℕ) : Type 0 where
  pub it : X
  pub stands : Stands it
  pub is : ws ≡ words_of it

-- these words
pub record Just (vs ws : List ℕ) : Type 0 where
  pub is : ws ≡ vs

-- one after the other
infixr 30 ◌Then◌
pub record ◌Then◌ (S S' : List ℕ → Type 0) (ws : List ℕ) : Type 0 where
  pub us : List ℕ
  pub vs : List ℕ
  pub first : S us
  pub second : S' vs
  pub is : ws ≡ us ++ vs

-- a section: words after their count
pub record AfterCount (S : List ℕ → Type 0) (ws : List ℕ) : Type 0 where
  pub inner : List ℕ
  pub spelled : S inner
  pub is : ws ≡ section inner

-- what there is by its words, or none
abbrev pub OrNone : {X : Type 0} → (X → List ℕ → Type 0) → Option X → List ℕ → Type 0
OrNone S (Some x) = S x
OrNone S None = Just []

-- ## Lengths, which stop at a limit

pub record Long (limit : ℕ) (S : List ℕ → Type 0) (n : ℕ) : Type 0 where
  pub is : (ws : List ℕ) → S ws → n ≡ min (length ws) limit

-- what is read stands in the question and in work below t
pub record Ground (q w : List ℕ) (t : ℕ) : Type 0 where
  pub base : Base q w t
  pub fits : t ≤ length w
  pub cap : length w ≤ CAP

pub record Spelled (q w : List ℕ) (t : ℕ) (S : List ℕ → Type 0) : Type 0 where
  pub ground : Ground q w t
  pub words : List ℕ
  pub says : S words

-- ## Writing at a place of the report slice

pub record RoomAt (s : List ℕ) (p : ℕ) (ws : List ℕ) : Type 0 where
  pub room : p + length ws ≤ length s
  pub small : p + length ws ≤ 4294967295

-- the words were put at p, nothing else changed, and z is the place past them
pub record PutWords (s s' : List ℕ) (p : ℕ) (ws : List ℕ) (z : ℕ) : Type 0 where
  pub is : s' ≡ sets s p ws
  pub next : z ≡ p + length ws

pub record Writable (q w : List ℕ) (t : ℕ) (S : List ℕ → Type 0) (s : List ℕ) (p : ℕ) : Type 0 where
  pub spelled : Spelled q w t S
  pub room : RoomAt s p spelled.words

pub record Writes (S : List ℕ → Type 0) (s s' : List ℕ) (p z : ℕ) : Type 0 where
  pub past : (ws : List ℕ) → S ws → RoomAt s p ws → PutWords s s' p ws z
