-- Names, types, expressions, entries, judgements, trees and type errors, and the words that each is written as.
use Rattle.std.specs.Prelude.{ℕ, suc, Bool, true, false, List, [], ◌∷◌, ◌++◌, length}

-- (the library's choice by a Bool unfolds everywhere, and would hide what a proof goes by)
unfoldable pub pick : {A : Type 0} → Bool → A → A → A
pick true x y = x
pick false x y = y

-- ---- "000 keeps TmVar apart from TyVar: a variable's name is never compared with a type's name, even when the numbers agree."

pub record TmVar : Type 0 where
  pub number : ℕ

pub record TyVar : Type 0 where
  pub number : ℕ

-- ---- "Types, prefix order: 1 Int; 2 Bool; 3 Var name; 4 ETVar name; 5 Arrow T T; 6 Forall name T."

pub data Ty : Type 0 where
  int bool : Ty
  var etvar : TyVar → Ty
  arrow : Ty → Ty → Ty
  forall : TyVar → Ty → Ty

unfoldable pub ty_words : Ty → List ℕ
ty_words int = 1 ∷ []
ty_words bool = 2 ∷ []
ty_words (var a) = 3 ∷ a.number ∷ []
ty_words (etvar a) = 4 ∷ a.number ∷ []
ty_words (arrow A B) = 5 ∷ ty_words A ++ ty_words B
ty_words (forall a A) = 6 ∷ a.number ∷ ty_words A

-- ---- "Expressions: 16 Var x; 17 App e e; 18 Abs x T e; 19 TApp e T; 20 TAbs a e; 21 Ann e T; 22 LitInt low high (an i64's halves);
-- 23 LitBool 0 or 1; 24 Let x e e; 25 IfThenElse e e e; 26 BinOp op e e, with op 1 to 12 in 002's order."
-- The first number of each is the expression's place in the question.

pub data Expr : Type 0 where
  evar : ℕ → TmVar → Expr
  app : ℕ → Expr → Expr → Expr
  abs : ℕ → TmVar → Ty → Expr → Expr
  tapp : ℕ → Expr → Ty → Expr
  tabs : ℕ → TyVar → Expr → Expr
  ann : ℕ → Expr → Ty → Expr
  lit_int : ℕ → ℕ → ℕ → Expr
  lit_bool : ℕ → ℕ → Expr
  let_in : ℕ → TmVar → Expr → Expr → Expr
  if_then_else : ℕ → Expr → Expr → Expr → Expr
  bin_op : ℕ → ℕ → Expr → Expr → Expr

unfoldable pub place_of : Expr → ℕ
place_of (evar p x) = p
place_of (app p e e') = p
place_of (abs p x A e) = p
place_of (tapp p e A) = p
place_of (tabs p a e) = p
place_of (ann p e A) = p
place_of (lit_int p l h) = p
place_of (lit_bool p b) = p
place_of (let_in p x e e') = p
place_of (if_then_else p e e' e'') = p
place_of (bin_op p o e e') = p

-- ---- "Entries, oldest first: 32 VarBnd x T; 33 TVarBnd a; 34 ETVarBnd a; 35 SETVarBnd a T; 36 Mark a."

pub data Binding : Type 0 where
  var_bnd : TmVar → Ty → Binding
  tvar_bnd etvar_bnd : TyVar → Binding
  setvar_bnd : TyVar → Ty → Binding
  mark : TyVar → Binding

pub record Entry : Type 0 where
  pub binding : Binding

-- the entry that stands at a place of the question
abbrev pub of_question : ℕ → Binding → Entry
of_question p b = record { binding = b }

abbrev pub Ctx : Type 0
Ctx = List Entry

unfoldable pub binding_words : Binding → List ℕ
binding_words (var_bnd x A) = 32 ∷ x.number ∷ ty_words A
binding_words (tvar_bnd a) = 33 ∷ a.number ∷ []
binding_words (etvar_bnd a) = 34 ∷ a.number ∷ []
binding_words (setvar_bnd a A) = 35 ∷ a.number ∷ ty_words A
binding_words (mark a) = 36 ∷ a.number ∷ []

unfoldable pub entry_words : Entry → List ℕ
entry_words e = binding_words e.binding

unfoldable pub ctx_words : Ctx → List ℕ
ctx_words [] = []
ctx_words (e ∷ Γ) = entry_words e ++ ctx_words Γ

-- ---- The six judgements, kinds 1 to 6; inst_l and inst_r are one, with the side on which the unknown stands.

pub data Side : Type 0 where
  on_l on_r : Side

pub data Judgement : Type 0 where
  infer : Ctx → Expr → Judgement
  check : Ctx → Expr → Ty → Judgement
  infer_app : Ctx → Expr → Ty → Judgement
  subtype : Ctx → Ty → Ty → Judgement
  inst : Side → Ctx → TyVar → Ty → Judgement

-- the input context
unfoldable pub given : Judgement → Ctx
given (infer Γ e) = Γ
given (check Γ e B) = Γ
given (infer_app Γ e A) = Γ
given (subtype Γ A B) = Γ
given (inst s Γ a T) = Γ

-- ---- "Rules 1 to 37: InfVar, InfLitInt, InfLitBool, InfLam, InfApp, InfLet, InfIf, InfArith, InfBool, InfCmp, InfEq, InfAnn, InfTAbs, InfTApp,
-- InfAppArr, InfAppETVar, ChkLitInt, ChkLitBool, ChkLam, ChkAll, ChkSub, SubRefl, SubReflTVar, SubReflETVar, SubArr, SubAllR, SubAllL, SubInstL,
-- SubInstR, InstLSolve, InstLReach, InstLArr, InstLAllR, InstRSolve, InstRReach, InstRArr, InstRAllL."

pub data Rule : Type 0 where
  InfVar InfLitInt InfLitBool InfLam InfApp InfLet InfIf InfArith InfBool InfCmp InfEq InfAnn InfTAbs InfTApp : Rule
  InfAppArr InfAppETVar : Rule
  ChkLitInt ChkLitBool ChkLam ChkAll ChkSub : Rule
  SubRefl SubReflTVar SubReflETVar SubArr SubAllR SubAllL SubInstL SubInstR : Rule
  InstLSolve InstLReach InstLArr InstLAllR : Rule
  InstRSolve InstRReach InstRArr InstRAllL : Rule

unfoldable pub rule_number : Rule → ℕ
rule_number InfVar = 1
rule_number InfLitInt = 2
rule_number InfLitBool = 3
rule_number InfLam = 4
rule_number InfApp = 5
rule_number InfLet = 6
rule_number InfIf = 7
rule_number InfArith = 8
rule_number InfBool = 9
rule_number InfCmp = 10
rule_number InfEq = 11
rule_number InfAnn = 12
rule_number InfTAbs = 13
rule_number InfTApp = 14
rule_number InfAppArr = 15
rule_number InfAppETVar = 16
rule_number ChkLitInt = 17
rule_number ChkLitBool = 18
rule_number ChkLam = 19
rule_number ChkAll = 20
rule_number ChkSub = 21
rule_number SubRefl = 22
rule_number SubReflTVar = 23
rule_number SubReflETVar = 24
rule_number SubArr = 25
rule_number SubAllR = 26
rule_number SubAllL = 27
rule_number SubInstL = 28
rule_number SubInstR = 29
rule_number InstLSolve = 30
rule_number InstLReach = 31
rule_number InstLArr = 32
rule_number InstLAllR = 33
rule_number InstRSolve = 34
rule_number InstRReach = 35
rule_number InstRArr = 36
rule_number InstRAllL = 37

-- ---- "A node: rule number, number of children, place of its expression in the question (0 if none), then five sections: input context,
-- left type, right type, output context, result type." A node's result is Int where the judgement gives none, and is not written then.

mutual
  pub data Tree : Type 0 where
    node : Rule → Judgement → Ty → Ctx → Trees → Tree

  pub data Trees : Type 0 where
    leaf : Trees
    ◌&◌ : Tree → Trees → Trees

infixr 20 ◌&◌
-- a section: its words after their count
unfoldable pub section : List ℕ → List ℕ
section ws = length ws ∷ ws

unfoldable pub no_section : List ℕ
no_section = 0 ∷ []

unfoldable pub sections : List ℕ → List ℕ → List ℕ → List ℕ → List ℕ → List ℕ
sections input left right output result = input ++ (left ++ (right ++ (output ++ result)))

unfoldable pub ctx_section : Ctx → List ℕ
ctx_section Γ = section (ctx_words Γ)

unfoldable pub ty_section : Ty → List ℕ
ty_section A = section (ty_words A)

-- "Left and right are filled as in the question of that judgement; result only for infer and infer_app." What a node says after rule and
-- number of children, for a judgement with result C and output context Δ; of infer_app the expression is the argument (reading 14)
unfoldable pub judgement_words : Judgement → Ty → Ctx → List ℕ
judgement_words (infer Γ e) C Δ = place_of e ∷ sections (ctx_section Γ) no_section no_section (ctx_section Δ) (ty_section C)
judgement_words (check Γ e B) C Δ = place_of e ∷ sections (ctx_section Γ) no_section (ty_section B) (ctx_section Δ) no_section
judgement_words (infer_app Γ e A) C Δ = place_of e ∷ sections (ctx_section Γ) (ty_section A) no_section (ctx_section Δ) (ty_section C)
judgement_words (subtype Γ A B) C Δ = 0 ∷ sections (ctx_section Γ) (ty_section A) (ty_section B) (ctx_section Δ) no_section
judgement_words (inst on_l Γ a T) C Δ = 0 ∷ sections (ctx_section Γ) (ty_section (etvar a)) (ty_section T) (ctx_section Δ) no_section
judgement_words (inst on_r Γ a T) C Δ = 0 ∷ sections (ctx_section Γ) (ty_section T) (ty_section (etvar a)) (ctx_section Δ) no_section

unfoldable pub children : Trees → ℕ
children leaf = 0
children (t & ts) = suc (children ts)

-- "The tree is written parent first."
unfoldable mutual
  pub tree_words : Tree → List ℕ
  tree_words (node r j C Δ ts) = rule_number r ∷ children ts ∷ judgement_words j C Δ ++ trees_words ts

  pub trees_words : Trees → List ℕ
  trees_words leaf = []
  trees_words (t & ts) = tree_words t ++ trees_words ts

-- ---- Type errors, named as in 003, without "the `expr` fields (always None)"; the last is strict mode's: which it is, the name that it is
-- about, and the types that it shows, "actual or ty in the first, or left and right".

pub data Error : Type 0 where
  UnboundVariable ApplicationTypeError TypeApplicationError OccursCheck SubtypingError InstantiationError ParameterMismatch : Error

pub data About : Type 0 where
  no_name : About
  a_variable : TmVar → About
  a_type_name : TyVar → About

pub data Shown : Type 0 where
  no_type : Shown
  one_type : Ty → Shown
  two_types : Ty → Ty → Shown

pub record TypeError : Type 0 where
  pub error : Error
  pub about : About
  pub shown : Shown

abbrev pub unbound_variable : TmVar → TypeError
unbound_variable x = record { error = UnboundVariable; about = a_variable x; shown = no_type }

abbrev pub application_type_error : Ty → TypeError
application_type_error A = record { error = ApplicationTypeError; about = no_name; shown = one_type A }

abbrev pub type_application_error : Ty → TypeError
type_application_error A = record { error = TypeApplicationError; about = no_name; shown = one_type A }

abbrev pub occurs_check : TyVar → Ty → TypeError
occurs_check a A = record { error = OccursCheck; about = a_type_name a; shown = one_type A }

abbrev pub subtyping_error : Ty → Ty → TypeError
subtyping_error A B = record { error = SubtypingError; about = no_name; shown = two_types A B }

abbrev pub instantiation_error : TyVar → Ty → TypeError
instantiation_error a A = record { error = InstantiationError; about = a_type_name a; shown = one_type A }

abbrev pub parameter_mismatch : Ty → Ty → TypeError
parameter_mismatch A B = record { error = ParameterMismatch; about = no_name; shown = two_types A B }

-- `unfolding syntax_computes` opens every definition above: for theorems by computation
unfoldable pub syntax_computes : Unit {0}
unfolding pick ty_words place_of binding_words entry_words ctx_words given rule_number section no_section sections ctx_section ty_section judgement_words children tree_words
syntax_computes = tt
