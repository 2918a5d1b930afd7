-- What an expression's code tells of the expression: one inversion for all eleven forms, with the parts as the functions find them.
use mathlib.Core.Path.{◌≡◌, refl, sym, ◌∙◌}
use mathlib.Core.List.{List, [], ◌∷◌}
use Prim.Native.Nat.{ℕ, ◌+◌, ◌-◌, ◌<◌}
use native.Mathlib.Omega.{arith}
use lib.ListN.{length, get_or}
use Rattle.definition.specs.Syntax.{Ty, Expr, evar, abs, tapp, tabs, ann, lit_int, lit_bool, let_in, bin_op}
use Rattle.layout.specs.Sizes.{ENDS}
use Rattle.layout.specs.Monotypes.{past}
use Rattle.layout.specs.Places.{expr_size, size, CodeAt, TyAt, ExprAt, evar_at, app_at, abs_at, tapp_at, tabs_at, ann_at, lit_int_at, lit_bool_at, let_in_at, if_then_else_at, bin_op_at}
use Rattle.layout.specs.Denotes.{Base}
use Rattle.layout.proofs.Places.{expr_code_lem}
use Rattle.layout.proofs.Denotes.{past_ty}
use Rattle.layout.proofs.Numbered.{nth}
use Rattle.expressions.specs.Forms.{Shaped, IsApp, IsAbs, IsTyped, IsTAbs, IsLet, IsIf, IsBinOp, AbsOf}

-- ## Forms that no function takes apart

pub record IsLitInt (p : ℕ) (e : Expr) : Type 0 where
  pub l : ℕ
  pub h : ℕ
  pub is : e ≡ lit_int p l h

pub record IsLitBool (p : ℕ) (e : Expr) : Type 0 where
  pub b : ℕ
  pub is : e ≡ lit_bool p b

-- ## The inversion

module _ (q w : List ℕ) (p : ℕ) where
  -- the name, or the operator, behind the code
  abbrev name : ℕ
  name = get_or q (p + 1) 0

  -- what the expression of code k at p is
  abbrev IsForm : Expr → ℕ → Type 0
  IsForm e k =
      nth ((e ≡ evar p (record { number = name }))
      ∷ IsApp q p (record { func = p + 1; arg = past w (p + 1) }) e
      ∷ IsAbs q p (record { x = record { 0 = name }; ty = p + 2; body = past w (p + 2) }) e
      ∷ IsTyped tapp q p (record { e = p + 1; ty = past w (p + 1) }) e
      ∷ IsTAbs q p (record { a = record { 0 = name }; body = p + 2 }) e
      ∷ IsTyped ann q p (record { e = p + 1; ty = past w (p + 1) }) e
      ∷ IsLitInt p e
      ∷ IsLitBool p e
      ∷ IsLet q p (record { x = record { 0 = name }; first = p + 2; body = past w (p + 2) }) e
      ∷ IsIf q p (record { cond = p + 1; yes = past w (p + 1); no = past w (past w (p + 1)) }) e
      ∷ IsBinOp q p (record { op = name; left = p + 2; right = past w (p + 2) }) e
      ∷ []) (k - 16)

  by : {c k : ℕ} (e : Expr) → CodeAt q p c → get_or q p 0 ≡ k → IsForm e c → IsForm e k
  by e c h f = rw (sym c.is ∙ h) at f

module _ {q w : List ℕ} (b : Base q w (length w)) where
  -- the part behind an expression, or behind a type
  after : {i m : ℕ} {f : Expr} → ExprAt q i f → i + expr_size f ≡ m → past w i ≡ m
  after x m = b.past_expr _ _ x ∙ m

  after_type : {i m : ℕ} {A : Ty} → TyAt q i A → i + size A ≡ m → past w i ≡ m
  after_type x m = past_ty b x ∙ m

  form : {p : ℕ} {e : Expr} (k : ℕ) → get_or q p 0 ≡ k → ExprAt q p e → IsForm q w p e k
  form k h (evar_at {p} {x} c n) = by q w p (evar p x) c h (rw n.is refl)
  form k h (app_at c x m y) = by q w _ _ c h (record { f = _; d = _; is = refl; func = x; arg = rw (after x m) y })
  form k h (abs_at {p = p} {x = x} {A = A} {e = d} c n a m y) = by q w p (abs p x A d) c h (record { A = A; d = d; is = rw n.is refl; type = a; body = rw (after_type a m) y })
  form k h (tapp_at c x m y) = by q w _ _ c h (record { f = _; A = _; is = refl; part = x; type = rw (after x m) y })
  form k h (tabs_at {p = p} {a = a} {e = d} c n y) = by q w p (tabs p a d) c h (record { d = d; is = rw n.is refl; body = y })
  form k h (ann_at c x m y) = by q w _ _ c h (record { f = _; A = _; is = refl; part = x; type = rw (after x m) y })
  form k h (lit_int_at c n o) = by q w _ _ c h (record { l = _; h = _; is = refl })
  form k h (lit_bool_at c n) = by q w _ _ c h (record { b = _; is = refl })
  form k h (let_in_at {p = p} {x = x} {e = f} {e' = d} c n y m z) =
      by q w p (let_in p x f d) c h (record { f = f; d = d; is = rw n.is refl; first = y; body = rw (after y m) z })
  form k h (if_then_else_at c x m y n z) =
      by q w _ _ c h (record { f = _; d = _; d₂ = _; is = refl; cond = x; yes = rw (after x m) y; no = rw (after x m, after y n) z })
  form k h (bin_op_at {p = p} {o = o} {e = f} {e' = d} c n l u y m z) =
      by q w p (bin_op p o f d) c h (record { f = f; d = d; is = rw n.is refl; some = rw n.is l; left = y; right = rw (after y m) z })

-- ## Where the functions look

-- every expression has a second word
pub second_word : {q : List ℕ} {p : ℕ} {e : Expr} → ExprAt q p e → p + 1 < length q
second_word (evar_at c n) = n.within
second_word (app_at c x m y) = (expr_code_lem x).within
second_word (abs_at c n a m y) = n.within
second_word (tapp_at c x m y) = (expr_code_lem x).within
second_word (tabs_at c n y) = n.within
second_word (ann_at c x m y) = (expr_code_lem x).within
second_word (lit_int_at c n o) = n.within
second_word (lit_bool_at c n) = n.within
second_word (let_in_at c n y m z) = n.within
second_word (if_then_else_at c x m y n z) = (expr_code_lem x).within
second_word (bin_op_at c n l u y m z) = n.within

-- the table has a word for the place of a part
in_table : {q w : List ℕ} {p k i : ℕ} {f : Expr} → Shaped q w p k → ExprAt q i f → ENDS + i < length w
in_table s x = omega (arith, (expr_code_lem x).inside, s.base.floor)

-- ## What they need and give

module _ {q w : List ℕ} {p : ℕ} where
  -- what an expression is that has the code
  pub told : {k : ℕ} → Shaped q w p k → {e : Expr} → ExprAt q p e → IsForm q w p e k
  told {k} s x = form s.base k s.code.is x

  pub abs_of : {m : ℕ} → Shaped q w p 18 → m ≡ past w (p + 2)
      → AbsOf q p (record { x = record { 0 = get_or q (p + 1) 0 }; ty = p + 2; body = m })
  abs_of s h = record { is = λ x. rw h (told s x) }

  module _ {m : ℕ} (s : Shaped q w p 25) (h : m ≡ past w (p + 1)) where
    pub if_table₂ : ENDS + m < length w
    if_table₂ = rw h (in_table s (told s s.at).yes)
