-- Comparing two types up to the names bound by Forall: where the pairs of letters lie, and what is told of every two types that are denoted.
use Rattle.std.specs.Prelude.{◌≡◌, List, [], ◌∷◌, Bool, ℕ, zero, suc, ◌+◌, ◌*◌, ◌≤◌, length, get_or}
use Rattle.definition.specs.Syntax.{TyVar, Ty}
use Rattle.definition.specs.Rules.{Letters, same_ty}
use Rattle.layout.specs.Words.{Keep}
use Rattle.layout.specs.Places.{size}
use Rattle.layout.specs.Denotes.{Den}
use Rattle.types.specs.Reading.{Held, HeldNamed, Named}
use Rattle.walks.specs.declared.NamePair.{NamePair}

-- both denote a type that begins with a name
pub record BothNamed (q w : List ℕ) (t r s : ℕ) : Type 0 where
  pub one : HeldNamed q w t r
  pub two : HeldNamed q w t s

-- and p has the two names
pub record BothNames (q w : List ℕ) (t r s : ℕ) (p : NamePair) : Type 0 where
  pub one : Named q w t r p.a
  pub two : Named q w t s p.b

-- the names of two numbers
abbrev pub pair : ℕ → ℕ → TyVar × TyVar
pair a b = (record { number = a }, record { number = b })

-- the n pairs of letters in work from t on, two words each, the innermost last
unfoldable pub letters_at : List ℕ → ℕ → ℕ → Letters
letters_at w t zero = []
letters_at w t (suc n) = pair (get_or w (t + 2 * n) 0) (get_or w (t + 2 * n + 1) 0) ∷ letters_at w t n

-- both denote a type, and past the pairs there is room for as many words as the second has: two for each Forall passed are among them
pub record Comparing (q w : List ℕ) (t n r s : ℕ) : Type 0 where
  pub one : Held q w t r
  pub two : Held q w t s
  pub room : t + 2 * n + size two.type ≤ length w

pub record Same (q w w' : List ℕ) (t n r s : ℕ) (b : Bool) : Type 0 where
  pub is : (A B : Ty) → Den q w t r A → Den q w t s B → b ≡ same_ty (letters_at w t n) A B
  pub keep : (B : Ty) → Den q w t s B → Keep (t + 2 * n) (t + 2 * n + size B) w w'
