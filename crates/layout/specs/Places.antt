-- What stands at a place of the question: types and expressions in prefix order.
use Rattle.std.specs.Prelude.{◌≡◌, List, ℕ, ◌+◌, ◌≤◌, ◌<◌, length, get_or}
use Rattle.definition.specs.Syntax.{TmVar, TyVar, Ty, int, bool, var, etvar, arrow, forall, Expr, evar, app, abs, tapp, tabs, ann, lit_int, lit_bool, let_in, if_then_else, bin_op}
use Rattle.layout.specs.Sizes.{BASE}

-- how many words an item has
abbrev pub size : Ty → ℕ
size int = 1
size bool = 1
size (var a) = 2
size (etvar a) = 2
size (arrow A B) = 1 + size A + size B
size (forall a A) = 2 + size A

abbrev pub expr_size : Expr → ℕ
expr_size (evar p x) = 2
expr_size (app p e e') = 1 + expr_size e + expr_size e'
expr_size (abs p x A e) = 2 + size A + expr_size e
expr_size (tapp p e A) = 1 + expr_size e + size A
expr_size (tabs p a e) = 2 + expr_size e
expr_size (ann p e A) = 1 + expr_size e + size A
expr_size (lit_int p l h) = 3
expr_size (lit_bool p b) = 2
expr_size (let_in p x e e') = 2 + expr_size e + expr_size e'
expr_size (if_then_else p e e' e'') = 1 + expr_size e + expr_size e' + expr_size e''
expr_size (bin_op p o e e') = 2 + expr_size e + expr_size e'

-- the code k stands at place p
pub record CodeAt (q : List ℕ) (p k : ℕ) : Type 0 where
  pub inside : p < BASE
  pub within : p < length q
  pub is : get_or q p 0 ≡ k

-- the word n, a name or a number, stands at place p
pub record WordAt (q : List ℕ) (p n : ℕ) : Type 0 where
  pub within : p < length q
  pub is : get_or q p 0 ≡ n

pub data TyAt (q : List ℕ) : ℕ → Ty → Type 0 where
  int_at : {p : ℕ} → CodeAt q p 1 → TyAt q p int
  bool_at : {p : ℕ} → CodeAt q p 2 → TyAt q p bool
  var_at : {p : ℕ} {a : TyVar} → CodeAt q p 3 → WordAt q (p + 1) a.number → TyAt q p (var a)
  etvar_at : {p : ℕ} {a : TyVar} → CodeAt q p 4 → WordAt q (p + 1) a.number → TyAt q p (etvar a)
  arrow_at : {p m : ℕ} {A B : Ty} → CodeAt q p 5 → TyAt q (p + 1) A → p + 1 + size A ≡ m → TyAt q m B → TyAt q p (arrow A B)
  forall_at : {p : ℕ} {a : TyVar} {A : Ty} → CodeAt q p 6 → WordAt q (p + 1) a.number → TyAt q (p + 2) A → TyAt q p (forall a A)

pub data ExprAt (q : List ℕ) : ℕ → Expr → Type 0 where
  evar_at : {p : ℕ} {x : TmVar} → CodeAt q p 16 → WordAt q (p + 1) x.number → ExprAt q p (evar p x)
  app_at : {p m : ℕ} {e e' : Expr} → CodeAt q p 17 → ExprAt q (p + 1) e → p + 1 + expr_size e ≡ m → ExprAt q m e' → ExprAt q p (app p e e')
  abs_at : {p m : ℕ} {x : TmVar} {A : Ty} {e : Expr} → CodeAt q p 18 → WordAt q (p + 1) x.number → TyAt q (p + 2) A
      → p + 2 + size A ≡ m → ExprAt q m e → ExprAt q p (abs p x A e)
  tapp_at : {p m : ℕ} {e : Expr} {A : Ty} → CodeAt q p 19 → ExprAt q (p + 1) e → p + 1 + expr_size e ≡ m → TyAt q m A
      → ExprAt q p (tapp p e A)
  tabs_at : {p : ℕ} {a : TyVar} {e : Expr} → CodeAt q p 20 → WordAt q (p + 1) a.number → ExprAt q (p + 2) e → ExprAt q p (tabs p a e)
  ann_at : {p m : ℕ} {e : Expr} {A : Ty} → CodeAt q p 21 → ExprAt q (p + 1) e → p + 1 + expr_size e ≡ m → TyAt q m A
      → ExprAt q p (ann p e A)
  lit_int_at : {p l h : ℕ} → CodeAt q p 22 → WordAt q (p + 1) l → WordAt q (p + 2) h → ExprAt q p (lit_int p l h)
  lit_bool_at : {p b : ℕ} → CodeAt q p 23 → WordAt q (p + 1) b → ExprAt q p (lit_bool p b)
  let_in_at : {p m : ℕ} {x : TmVar} {e e' : Expr} → CodeAt q p 24 → WordAt q (p + 1) x.number → ExprAt q (p + 2) e
      → p + 2 + expr_size e ≡ m → ExprAt q m e' → ExprAt q p (let_in p x e e')
  if_then_else_at : {p m k : ℕ} {e e' e'' : Expr} → CodeAt q p 25 → ExprAt q (p + 1) e → p + 1 + expr_size e ≡ m → ExprAt q m e'
      → m + expr_size e' ≡ k → ExprAt q k e'' → ExprAt q p (if_then_else p e e' e'')
  bin_op_at : {p m o : ℕ} {e e' : Expr} → CodeAt q p 26 → WordAt q (p + 1) o → 1 ≤ o → o ≤ 12 → ExprAt q (p + 2) e
      → p + 2 + expr_size e ≡ m → ExprAt q m e' → ExprAt q p (bin_op p o e e')
