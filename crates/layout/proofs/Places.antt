-- Laws of what stands at a place of the question.
use mathlib.Core.Path.{◌≡◌, refl}
use mathlib.Core.List.{List}
use Prim.Native.Nat.{ℕ, ◌+◌, ◌≤◌, ◌<◌}
use native.Mathlib.Omega.{arith}
use lib.ListN.{length, length-append}
use Rattle.definition.specs.Syntax.{Ty, int, bool, var, etvar, arrow, forall, ty_words, Expr, place_of}
use Rattle.definition.specs.Rules.{ty_code, expr_code}
use Rattle.layout.specs.Sizes.{MONO}
use Rattle.layout.specs.Places.{size, CodeAt, TyAt, int_at, bool_at, var_at, etvar_at, arrow_at, forall_at, ExprAt, evar_at, app_at, abs_at, tapp_at, tabs_at, ann_at, lit_int_at, lit_bool_at, let_in_at, if_then_else_at, bin_op_at}

-- ## Sizes

pub size_is : (A : Ty) → size A ≡ length (ty_words A)
unfolding ty_words
size_is int = refl
size_is bool = refl
size_is (var a) = refl
size_is (etvar a) = refl
size_is (arrow A B) = simp length-append (omega (arith, size_is A, size_is B))
size_is (forall a A) = omega (arith, size_is A)

pub size_some : (A : Ty) → 1 ≤ size A
size_some int = omega arith
size_some bool = omega arith
size_some (var a) = omega arith
size_some (etvar a) = omega arith
size_some (arrow A B) = omega arith
size_some (forall a A) = omega arith

-- ## The word at a place

pub code_small : (T : Ty) → ty_code T < MONO
unfolding ty_code
code_small int = omega arith
code_small bool = omega arith
code_small (var a) = omega arith
code_small (etvar a) = omega arith
code_small (arrow A B) = omega arith
code_small (forall a A) = omega arith

pub ty_code_lem : {q : List ℕ} {p : ℕ} {T : Ty} → TyAt q p T → CodeAt q p (ty_code T)
unfolding ty_code
ty_code_lem (int_at c) = c
ty_code_lem (bool_at c) = c
ty_code_lem (var_at c n) = c
ty_code_lem (etvar_at c n) = c
ty_code_lem (arrow_at c d e f) = c
ty_code_lem (forall_at c n d) = c

pub expr_code_lem : {q : List ℕ} {p : ℕ} {e : Expr} → ExprAt q p e → CodeAt q p (expr_code e)
unfolding expr_code
expr_code_lem (evar_at c n) = c
expr_code_lem (app_at c d e f) = c
expr_code_lem (abs_at c n d e f) = c
expr_code_lem (tapp_at c d e f) = c
expr_code_lem (tabs_at c n d) = c
expr_code_lem (ann_at c d e f) = c
expr_code_lem (lit_int_at c n m) = c
expr_code_lem (lit_bool_at c n) = c
expr_code_lem (let_in_at c n d e f) = c
expr_code_lem (if_then_else_at c d e f g h) = c
expr_code_lem (bin_op_at c n l m d e f) = c

pub expr_place : {q : List ℕ} {p : ℕ} {e : Expr} → ExprAt q p e → place_of e ≡ p
unfolding place_of
expr_place (evar_at c n) = refl
expr_place (app_at c d e f) = refl
expr_place (abs_at c n d e f) = refl
expr_place (tapp_at c d e f) = refl
expr_place (tabs_at c n d) = refl
expr_place (ann_at c d e f) = refl
expr_place (lit_int_at c n m) = refl
expr_place (lit_bool_at c n) = refl
expr_place (let_in_at c n d e f) = refl
expr_place (if_then_else_at c d e f g h) = refl
expr_place (bin_op_at c n l m d e f) = refl

-- ## An item ends within the question

-- and before the monotype mark's number
pub end_small : {q : List ℕ} {p : ℕ} {T : Ty} → TyAt q p T → p + size T < MONO
end_small (int_at c) = omega (arith, c.inside)
end_small (bool_at c) = omega (arith, c.inside)
end_small (var_at c n) = omega (arith, c.inside)
end_small (etvar_at c n) = omega (arith, c.inside)
end_small (arrow_at c d e f) = omega (arith, end_small f)
end_small (forall_at c n d) = omega (arith, end_small d)

pub ty_within : {q : List ℕ} {p : ℕ} {T : Ty} → TyAt q p T → p + size T ≤ length q
ty_within (int_at c) = omega (arith, c.within)
ty_within (bool_at c) = omega (arith, c.within)
ty_within (var_at c n) = omega (arith, n.within)
ty_within (etvar_at c n) = omega (arith, n.within)
ty_within (arrow_at c d e f) = omega (arith, ty_within f)
ty_within (forall_at c n d) = omega (arith, ty_within d)
