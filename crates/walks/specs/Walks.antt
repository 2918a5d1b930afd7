-- What the walks over one type tell, for every type that their references denote.
use Rattle.std.specs.Prelude.{◌≡◌, List, Bool, ℕ}
use Rattle.definition.specs.Syntax.{Ty}
use Rattle.definition.specs.Types.{occurs}
use Rattle.layout.specs.Names.{ty}
use Rattle.layout.specs.Denotes.{Den}
use Rattle.layout.specs.declared.TyVar.{TyVar}

pub record Occurs (q w : List ℕ) (t : ℕ) (a : TyVar) (r : ℕ) (b : Bool) : Type 0 where
  pub is : (T : Ty) → Den q w t r T → b ≡ occurs (ty a) T
