-- Names, types, contexts, expressions, judgements, trees and type errors that differ in paired names and in literals alone.
use mathlib.Core.Path.{◌≡◌}
use Prim.Native.Nat.{ℕ}
use mathlib.Core.Bool.{Bool, true, false}
use mathlib.Core.List.{[], ◌∷◌}
use mathlib.Core.Option.{Option, none, some}
use Rattle.definition.specs.Syntax.{pick, TmVar, TyVar, Ty, int, bool, var, etvar, arrow, forall, Expr, evar, app, abs, tapp, tabs, ann, lit_int, lit_bool, let_in, if_then_else, bin_op, Binding, var_bnd, tvar_bnd, etvar_bnd, setvar_bnd, mark, Entry, of_question, Ctx, Side, Judgement, infer, check, infer_app, subtype, inst, Rule, Tree, node, Trees, leaf, ◌&◌, Shown, no_type, one_type, two_types, TypeError}
use Rattle.definition.specs.Rules.{Here, ◌from◌}
use Rattle.definition.specs.Reply.{error_code, error_at}
use Rattle.alike.specs.Alike.{Pairing, Written, ReplyName, InReplies, at_label}

pub record VarR (P : Pairing) (x x' : TmVar) : Type 0 where
  pub numbers : Written P.variables x.number x'.number

pub record NameR (P : Pairing) (a a' : TyVar) : Type 0 where
  pub numbers : ReplyName P.types a.number a'.number

pub data TyR (P : Pairing) : Ty → Ty → Type 0 where
  int_r : TyR P int int
  bool_r : TyR P bool bool
  var_r : {a a' : TyVar} → NameR P a a' → TyR P (var a) (var a')
  etvar_r : {a a' : TyVar} → NameR P a a' → TyR P (etvar a) (etvar a')
  arrow_r : {A A' B B' : Ty} → TyR P A A' → TyR P B B' → TyR P (arrow A B) (arrow A' B')
  forall_r : {a a' : TyVar} {A A' : Ty} → NameR P a a' → TyR P A A' → TyR P (forall a A) (forall a' A')

pub data BindingR (P : Pairing) : Binding → Binding → Type 0 where
  var_bnd_r : {x x' : TmVar} {A A' : Ty} → VarR P x x' → TyR P A A' → BindingR P (var_bnd x A) (var_bnd x' A')
  tvar_bnd_r : {a a' : TyVar} → NameR P a a' → BindingR P (tvar_bnd a) (tvar_bnd a')
  etvar_bnd_r : {a a' : TyVar} → NameR P a a' → BindingR P (etvar_bnd a) (etvar_bnd a')
  setvar_bnd_r : {a a' : TyVar} {A A' : Ty} → NameR P a a' → TyR P A A' → BindingR P (setvar_bnd a A) (setvar_bnd a' A')
  mark_r : {a a' : TyVar} → NameR P a a' → BindingR P (mark a) (mark a')

pub record EntryR (P : Pairing) (e e' : Entry) : Type 0 where
  pub bindings : BindingR P e.binding e'.binding

-- entries of the question, at the same place, and entries that a rule makes
pub of_question_r : {P : Pairing} {b b' : Binding} (p : ℕ) → BindingR P b b' → EntryR P (of_question p b) (of_question p b')
of_question_r p b = record { bindings = b }

pub from_r : {P : Pairing} {b b' : Binding} (h : Here) → BindingR P b b' → EntryR P (b from h) (b' from h)
from_r h b = record { bindings = b }

pub data CtxR (P : Pairing) : Ctx → Ctx → Type 0 where
  nil_r : CtxR P [] []
  cons_r : {e e' : Entry} {Γ Γ' : Ctx} → EntryR P e e' → CtxR P Γ Γ' → CtxR P (e ∷ Γ) (e' ∷ Γ')

-- the places are the same, the literals' values free
pub data ExprR (P : Pairing) : Expr → Expr → Type 0 where
  evar_r : {p : ℕ} {x x' : TmVar} → VarR P x x' → ExprR P (evar p x) (evar p x')
  app_r : {p : ℕ} {e e' f f' : Expr} → ExprR P e e' → ExprR P f f' → ExprR P (app p e f) (app p e' f')
  abs_r : {p : ℕ} {x x' : TmVar} {A A' : Ty} {e e' : Expr} → VarR P x x' → TyR P A A' → ExprR P e e' → ExprR P (abs p x A e) (abs p x' A' e')
  tapp_r : {p : ℕ} {e e' : Expr} {A A' : Ty} → ExprR P e e' → TyR P A A' → ExprR P (tapp p e A) (tapp p e' A')
  tabs_r : {p : ℕ} {a a' : TyVar} {e e' : Expr} → NameR P a a' → ExprR P e e' → ExprR P (tabs p a e) (tabs p a' e')
  ann_r : {p : ℕ} {e e' : Expr} {A A' : Ty} → ExprR P e e' → TyR P A A' → ExprR P (ann p e A) (ann p e' A')
  lit_int_r : {p l l' h h' : ℕ} → ExprR P (lit_int p l h) (lit_int p l' h')
  lit_bool_r : {p b b' : ℕ} → ExprR P (lit_bool p b) (lit_bool p b')
  let_in_r : {p : ℕ} {x x' : TmVar} {e e' f f' : Expr} → VarR P x x' → ExprR P e e' → ExprR P f f'
      → ExprR P (let_in p x e f) (let_in p x' e' f')
  if_then_else_r : {p : ℕ} {e e' f f' g g' : Expr} → ExprR P e e' → ExprR P f f' → ExprR P g g'
      → ExprR P (if_then_else p e f g) (if_then_else p e' f' g')
  bin_op_r : {p o : ℕ} {e e' f f' : Expr} → ExprR P e e' → ExprR P f f' → ExprR P (bin_op p o e f) (bin_op p o e' f')

pub data JudgementR (P : Pairing) : Judgement → Judgement → Type 0 where
  infer_r : {Γ Γ' : Ctx} {e e' : Expr} → CtxR P Γ Γ' → ExprR P e e' → JudgementR P (infer Γ e) (infer Γ' e')
  check_r : {Γ Γ' : Ctx} {e e' : Expr} {A A' : Ty} → CtxR P Γ Γ' → ExprR P e e' → TyR P A A' → JudgementR P (check Γ e A) (check Γ' e' A')
  infer_app_r : {Γ Γ' : Ctx} {e e' : Expr} {A A' : Ty} → CtxR P Γ Γ' → ExprR P e e' → TyR P A A'
      → JudgementR P (infer_app Γ e A) (infer_app Γ' e' A')
  subtype_r : {Γ Γ' : Ctx} {A A' B B' : Ty} → CtxR P Γ Γ' → TyR P A A' → TyR P B B' → JudgementR P (subtype Γ A B) (subtype Γ' A' B')
  inst_r : {s : Side} {Γ Γ' : Ctx} {a a' : TyVar} {A A' : Ty} → CtxR P Γ Γ' → NameR P a a' → TyR P A A'
      → JudgementR P (inst s Γ a A) (inst s Γ' a' A')

mutual
  pub data TreeR (P : Pairing) : Tree → Tree → Type 0 where
    node_r : {r : Rule} {j j' : Judgement} {C C' : Ty} {Δ Δ' : Ctx} {ts ts' : Trees} → JudgementR P j j' → TyR P C C' → CtxR P Δ Δ'
        → TreesR P ts ts'
        → TreeR P (node r j C Δ ts) (node r j' C' Δ' ts')

  pub data TreesR (P : Pairing) : Trees → Trees → Type 0 where
    leaf_r : TreesR P leaf leaf
    and_r : {t t' : Tree} {ts ts' : Trees} → TreeR P t t' → TreesR P ts ts' → TreesR P (t & ts) (t' & ts')

pub data ShownR (P : Pairing) : Shown → Shown → Type 0 where
  no_type_r : ShownR P no_type no_type
  one_type_r : {A A' : Ty} → TyR P A A' → ShownR P (one_type A) (one_type A')
  two_types_r : {A A' B B' : Ty} → TyR P A A' → TyR P B B' → ShownR P (two_types A B) (two_types A' B')

-- the same error, about names that are as `at` asks of its code
pub record TypeErrorR (P : Pairing) (e e' : TypeError) : Type 0 where
  pub error : e.error ≡ e'.error
  pub about : InReplies P (at_label (error_code e.error) (error_at e.about)) (error_at e.about) (error_at e'.about)
  pub shown : ShownR P e.shown e'.shown

-- ## Choices

pub data OptionR {A : Type 0} (W : A → A → Type 0) : Option A → Option A → Type 0 where
  none_r : OptionR W none none
  some_r : {a a' : A} → W a a' → OptionR W (some a) (some a')

-- where the tests agree, a choice is alike if both branches are
pub pick_r : {A : Type 0} (W : A → A → Type 0) {b b' : Bool} {x y x' y' : A} → b ≡ b' → W x x' → W y y' → W (pick b x y) (pick b' x' y')
unfolding pick
pick_r W {b} {b'} {x} {y} {x'} {y'} e p q = rw (← e) (by b p q)
  where
    by : (c : Bool) → W x x' → W y y' → W (pick c x y) (pick c x' y')
    by true p q = p
    by false p q = q
