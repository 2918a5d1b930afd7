-- Making a type's record at the top of work: the room it takes, and what its reference, 2048 + top, denotes then.
use Rattle.std.specs.Prelude.{◌≡◌, List, ℕ, ◌+◌, ◌≤◌, length}
use Rattle.definition.specs.Syntax.{Ty, etvar, arrow, forall}
use Rattle.layout.specs.Sizes.{BASE}
use Rattle.layout.specs.Names.{ty}
use Rattle.layout.specs.Words.{Keep}
use Rattle.layout.specs.Denotes.{Den}
use Rattle.layout.specs.declared.TyVar.{TyVar}
use Rattle.types.specs.Reading.{Held}

-- room for an Arrow's record, and its two parts
pub record ArrowRoom (q w : List ℕ) (t l r : ℕ) : Type 0 where
  pub room : t + 4 ≤ length w
  pub left : Held q w t l
  pub right : Held q w t r

-- room for a Forall's record, and its body
pub record ForallRoom (q w : List ℕ) (t r : ℕ) : Type 0 where
  pub room : t + 4 ≤ length w
  pub body : Held q w t r

-- an ETVar's record, the same for every question
pub record PutETVar (w w' : List ℕ) (t : ℕ) (a : TyVar) (k : ℕ) : Type 0 where
  pub keep : Keep t (t + 2) w w'
  pub ref : k ≡ BASE + t
  pub den : (q : List ℕ) → Den q w' (t + 2) k (etvar (ty a))

pub record PutArrow (q w w' : List ℕ) (t l r k : ℕ) : Type 0 where
  pub keep : Keep t (t + 4) w w'
  pub ref : k ≡ BASE + t
  pub den : (A B : Ty) → Den q w t l A → Den q w t r B → Den q w' (t + 4) k (arrow A B)

pub record PutForall (q w w' : List ℕ) (t : ℕ) (a : TyVar) (r k : ℕ) : Type 0 where
  pub keep : Keep t (t + 4) w w'
  pub ref : k ≡ BASE + t
  pub den : (A : Ty) → Den q w t r A → Den q w' (t + 4) k (forall (ty a) A)
