-- Context, after 000: what a rule may do with one; entries oldest first.
use Rattle.std.specs.Prelude.{ℕ, Bool, false, ◌&&◌, ◌||◌, [], ◌∷◌, ◌++◌, eqb}
use Rattle.std.proofs.Math.Option.{Option, none, some}
use Rattle.definition.specs.Syntax.{syntax_computes, pick, TmVar, TyVar, Ty, int, Binding, var_bnd, tvar_bnd, etvar_bnd, setvar_bnd, mark, Entry, Ctx}

-- ---- "Closures in find and break3: one search by entry kind and name."

pub data Key : Type 0 where
  k_var : TmVar → Key
  k_tvar k_etvar k_setvar k_mark : TyVar → Key

unfoldable pub binding_key : Binding → Key
binding_key (var_bnd x A) = k_var x
binding_key (tvar_bnd a) = k_tvar a
binding_key (etvar_bnd a) = k_etvar a
binding_key (setvar_bnd a A) = k_setvar a
binding_key (mark a) = k_mark a

unfoldable pub key_of : Entry → Key
key_of e = binding_key e.binding

unfoldable pub kind_of : Key → ℕ
kind_of (k_var x) = 32
kind_of (k_tvar a) = 33
kind_of (k_etvar a) = 34
kind_of (k_setvar a) = 35
kind_of (k_mark a) = 36

unfoldable pub name_of : Key → ℕ
name_of (k_var x) = x.number
name_of (k_tvar a) = a.number
name_of (k_etvar a) = a.number
name_of (k_setvar a) = a.number
name_of (k_mark a) = a.number

unfoldable pub hit : Key → Entry → Bool
hit k e = eqb (kind_of (key_of e)) (kind_of k) && eqb (name_of (key_of e)) (name_of k)

-- ---- "find and break3 take the earliest entry. With no match, left is everything, so a solution is appended."

-- the type that a binding holds (Int where it holds none, which nothing reads)
unfoldable pub binding_type : Binding → Ty
binding_type (var_bnd x A) = A
binding_type (tvar_bnd a) = int
binding_type (etvar_bnd a) = int
binding_type (setvar_bnd a A) = A
binding_type (mark a) = int

unfoldable pub held : Entry → Ty
held e = binding_type e.binding

unfoldable pub find : Key → Ctx → Option Ty
find k [] = none
find k (e ∷ Γ) = pick (hit k e) (some (held e)) (find k Γ)

unfoldable pub left_of : Key → Ctx → Ctx
left_of k [] = []
left_of k (e ∷ Γ) = pick (hit k e) [] (e ∷ left_of k Γ)

unfoldable pub right_of : Key → Ctx → Ctx
right_of k [] = []
right_of k (e ∷ Γ) = pick (hit k e) Γ (right_of k Γ)

unfoldable pub has : Key → Ctx → Bool
has k [] = false
has k (e ∷ Γ) = hit k e || has k Γ

-- ---- push, and from_parts with the entries Θ in the place of the unsolved a

infixl 30 ◌▹◌
unfoldable pub ◌▹◌ : Ctx → Entry → Ctx
Γ ▹ e = Γ ++ e ∷ []

unfoldable pub replace : TyVar → Ctx → Ctx → Ctx
replace a Θ Γ = left_of (k_etvar a) Γ ++ (Θ ++ right_of (k_etvar a) Γ)

-- ---- "InfLam, InfLet and InfTAbs keep solved entries of left, then right. ChkLam, ChkAll, SubAllR, SubAllL, InstLAllR and InstRAllL keep right
-- alone" (right_of).

unfoldable pub is_solved : Entry → Bool
is_solved e = eqb (kind_of (key_of e)) 35

unfoldable pub solved : Ctx → Ctx
solved [] = []
solved (e ∷ Γ) = pick (is_solved e) (e ∷ solved Γ) (solved Γ)

unfoldable pub solved_and_right : Key → Ctx → Ctx
solved_and_right k Γ = solved (left_of k Γ) ++ right_of k Γ

-- ---- "before is true when both have an unsolved entry and the first's earliest one stands later."

unfoldable pub before : Ctx → TyVar → TyVar → Bool
before Γ a b = has (k_etvar a) Γ && has (k_etvar b) (left_of (k_etvar a) Γ)

-- `unfolding contexts_compute` opens every definition above, and those they rest on
unfoldable pub contexts_compute : Unit {0}
unfolding binding_key key_of kind_of name_of hit binding_type held find left_of right_of has ◌▹◌ replace is_solved solved solved_and_right before syntax_computes
contexts_compute = tt
