-- Order 2: what is said of bound and free names, and what it is to differ "only in the names bound by Forall". Names are here those of Vars: in
-- this comparison no Forall binds an ETVar.
use Rattle.std.specs.Prelude.{◌≡◌, Bool, false, not, ◌&&◌, ◌||◌}
use Rattle.definition.specs.Syntax.{pick, TyVar, Ty, int, bool, var, etvar, arrow, forall}
use Rattle.definition.specs.Types.{same_name}

-- whether a name stands in a type, at a Forall or as a Var
unfoldable pub stands : TyVar → Ty → Bool
stands x int = false
stands x bool = false
stands x (var c) = same_name c x
stands x (etvar c) = false
stands x (arrow A B) = stands x A || stands x B
stands x (forall c A) = same_name c x || stands x A

-- whether it stands there as a Var that no Forall binds
unfoldable pub free : TyVar → Ty → Bool
free x int = false
free x bool = false
free x (var c) = same_name c x
free x (etvar c) = false
free x (arrow A B) = free x A || free x B
free x (forall c A) = not (same_name c x) && free x A

-- b for each free Var a
unfoldable pub renamed : TyVar → TyVar → Ty → Ty
renamed a b int = int
renamed a b bool = bool
renamed a b (var c) = pick (same_name c a) (var b) (var c)
renamed a b (etvar c) = etvar c
renamed a b (arrow A B) = arrow (renamed a b A) (renamed a b B)
renamed a b (forall c A) = forall c (pick (same_name c a) A (renamed a b A))

-- One is reached from the other by steps. Each renames the letter of one Forall, anywhere in the type, to a name that stands nowhere under that
-- Forall, or takes such a renaming back.
pub data Relettered : Ty → Ty → Type 0 where
  relettered : (a b : TyVar) (A : Ty) → stands b A ≡ false → Relettered (forall a A) (forall b (renamed a b A))
  unchanged : (A : Ty) → Relettered A A
  back : {A B : Ty} → Relettered A B → Relettered B A
  further : {A B C : Ty} → Relettered A B → Relettered B C → Relettered A C
  in_arrow : {A A' B B' : Ty} → Relettered A B → Relettered A' B' → Relettered (arrow A A') (arrow B B')
  in_forall : (a : TyVar) {A B : Ty} → Relettered A B → Relettered (forall a A) (forall a B)
