-- Comparing the numbers of two names compares the names.
use mathlib.Core.Path.{◌≡◌, ◌∙◌, ap}
use lib.Dec.{eqb}
use Rattle.definition.specs.Syntax as syntax
use Rattle.definition.specs.Types.{same_name}
use Rattle.layout.specs.Names.{ty}
use Rattle.layout.specs.declared.TyVar.{TyVar}

pub names : (a b : TyVar) (x y : syntax.TyVar) → ty a ≡ x → ty b ≡ y → eqb a.0 b.0 ≡ same_name x y
unfolding same_name
names a b x y e f = ap (λ (z : syntax.TyVar). same_name z (ty b)) e ∙ ap (λ (z : syntax.TyVar). same_name x z) f
