-- An expression by its form, with its parts: what a reader of parts may rely on, and what it gives for every expression that stands there.
use Rattle.std.specs.Prelude.{◌≡◌, List, ℕ, ◌≤◌, length}
use Rattle.definition.specs.Syntax.{Ty, Expr, evar, app, abs, tabs, let_in, if_then_else, bin_op}
use Rattle.layout.specs.Names.{tm, ty}
use Rattle.layout.specs.Places.{CodeAt, TyAt, ExprAt}
use Rattle.layout.specs.Denotes.{Base}
use Rattle.layout.specs.declared.TmVar.{TmVar}
use Rattle.expressions.specs.declared.Form.{Form}
use Rattle.expressions.specs.declared.App.{App}
use Rattle.expressions.specs.declared.Abs.{Abs}
use Rattle.expressions.specs.declared.Typed.{Typed}
use Rattle.expressions.specs.declared.TAbs.{TAbs}
use Rattle.expressions.specs.declared.Let.{Let}
use Rattle.expressions.specs.declared.If.{If}
use Rattle.expressions.specs.declared.BinOp.{BinOp}

-- ## What a reader may rely on

-- an expression of code k stands at p, and the table of ends is laid
pub record Shaped (q w : List ℕ) (p k : ℕ) : Type 0 where
  pub base : Base q w (length w)
  pub e : Expr
  pub at : ExprAt q p e
  pub code : CodeAt q p k

-- an expression stands at p
pub record Stands (q : List ℕ) (p : ℕ) : Type 0 where
  pub e : Expr
  pub at : ExprAt q p e

-- one that has a type behind its expression does: an Ann or a TApp
pub data HasType (q w : List ℕ) (p : ℕ) : Type 0 where
  an_ann : Shaped q w p 21 → HasType q w p
  a_tapp : Shaped q w p 19 → HasType q w p

-- a form's number is the code of the expressions of that form
abbrev pub form_number : Form → ℕ
form_number Form.Var = 16
form_number Form.App = 17
form_number Form.Abs = 18
form_number Form.TApp = 19
form_number Form.TAbs = 20
form_number Form.Ann = 21
form_number Form.LitInt = 22
form_number Form.LitBool = 23
form_number Form.Let = 24
form_number Form.If = 25
form_number Form.BinOp = 26

-- ## The expression e, which stands at p, has the parts o

pub record IsApp (q : List ℕ) (p : ℕ) (o : App) (e : Expr) : Type 0 where
  pub f : Expr
  pub d : Expr
  pub is : e ≡ app p f d
  pub func : ExprAt q o.func f
  pub arg : ExprAt q o.arg d

pub record IsAbs (q : List ℕ) (p : ℕ) (o : Abs) (e : Expr) : Type 0 where
  pub A : Ty
  pub d : Expr
  pub is : e ≡ abs p (tm o.x) A d
  pub type : TyAt q o.ty A
  pub body : ExprAt q o.body d

-- an expression and a type: Ann and TApp
pub record IsTyped (form : ℕ → Expr → Ty → Expr) (q : List ℕ) (p : ℕ) (o : Typed) (e : Expr) : Type 0 where
  pub f : Expr
  pub A : Ty
  pub is : e ≡ form p f A
  pub part : ExprAt q o.e f
  pub type : TyAt q o.ty A

pub record IsTAbs (q : List ℕ) (p : ℕ) (o : TAbs) (e : Expr) : Type 0 where
  pub d : Expr
  pub is : e ≡ tabs p (ty o.a) d
  pub body : ExprAt q o.body d

pub record IsLet (q : List ℕ) (p : ℕ) (o : Let) (e : Expr) : Type 0 where
  pub f : Expr
  pub d : Expr
  pub is : e ≡ let_in p (tm o.x) f d
  pub first : ExprAt q o.first f
  pub body : ExprAt q o.body d

pub record IsIf (q : List ℕ) (p : ℕ) (o : If) (e : Expr) : Type 0 where
  pub f : Expr
  pub d : Expr
  pub d₂ : Expr
  pub is : e ≡ if_then_else p f d d₂
  pub cond : ExprAt q o.cond f
  pub yes : ExprAt q o.yes d
  pub no : ExprAt q o.no d₂

pub record IsBinOp (q : List ℕ) (p : ℕ) (o : BinOp) (e : Expr) : Type 0 where
  pub f : Expr
  pub d : Expr
  pub is : e ≡ bin_op p o.op f d
  pub some : 1 ≤ o.op
  pub left : ExprAt q o.left f
  pub right : ExprAt q o.right d

-- ## So has every expression that stands there

pub record VarOf (q : List ℕ) (p : ℕ) (x : TmVar) : Type 0 where
  pub is : {e : Expr} → ExprAt q p e → e ≡ evar p (tm x)

pub record AppOf (q : List ℕ) (p : ℕ) (o : App) : Type 0 where
  pub is : {e : Expr} → ExprAt q p e → IsApp q p o e

pub record AbsOf (q : List ℕ) (p : ℕ) (o : Abs) : Type 0 where
  pub is : {e : Expr} → ExprAt q p e → IsAbs q p o e

pub record TypedOf (form : ℕ → Expr → Ty → Expr) (q : List ℕ) (p : ℕ) (o : Typed) : Type 0 where
  pub is : {e : Expr} → ExprAt q p e → IsTyped form q p o e

pub record TAbsOf (q : List ℕ) (p : ℕ) (o : TAbs) : Type 0 where
  pub is : {e : Expr} → ExprAt q p e → IsTAbs q p o e

pub record LetOf (q : List ℕ) (p : ℕ) (o : Let) : Type 0 where
  pub is : {e : Expr} → ExprAt q p e → IsLet q p o e

pub record IfOf (q : List ℕ) (p : ℕ) (o : If) : Type 0 where
  pub is : {e : Expr} → ExprAt q p e → IsIf q p o e

pub record BinOpOf (q : List ℕ) (p : ℕ) (o : BinOp) : Type 0 where
  pub is : {e : Expr} → ExprAt q p e → IsBinOp q p o e
