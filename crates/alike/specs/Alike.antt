-- Demand 3's words (../shared/MISSION.md) as definitions: "two well-formed questions, alike except in the values of literals and in names, where variable names
-- pair one to one and type names pair one to one", and "replies alike word by word but for paired names".
-- The formats of document 01 say which words are names and which are a literal's value, by labels; two lists of words are alike if they
-- fill the same labels, with names paired, a literal's words free, and all others the same.
use Rattle.std.specs.Prelude.{◌≡◌, ℕ, ◌+◌, ◌≤◌, ◌<◌, List, [], ◌∷◌, ◌++◌, length, eqb}
use Rattle.definition.specs.Syntax.{pick}
use Rattle.definition.specs.Question.{Question, got, read_question}
use Rattle.definition.specs.Reply.{Reply}
use Rattle.definition.specs.Memory.{Call}

-- ---- Labels: this word itself (a code, a count, an operator, a place), a name, an integer's half, a truth value

pub data Label : Type 0 where
  the : ℕ → Label
  variable type_name half truth : Label

-- a section: its labels after their count
abbrev pub section : List Label → List Label
section s = the (length s) ∷ s

-- ---- The formats of types, entries and expressions, a line for each

pub data IsTy : List Label → Type 0 where
  int : IsTy (the 1 ∷ [])
  bool : IsTy (the 2 ∷ [])
  var : IsTy (the 3 ∷ type_name ∷ [])
  etvar : IsTy (the 4 ∷ type_name ∷ [])
  arrow : {A B : List Label} → IsTy A → IsTy B → IsTy (the 5 ∷ A ++ B)
  forall : {A : List Label} → IsTy A → IsTy (the 6 ∷ type_name ∷ A)

pub data IsExpr : List Label → Type 0 where
  evar : IsExpr (the 16 ∷ variable ∷ [])
  app : {e f : List Label} → IsExpr e → IsExpr f → IsExpr (the 17 ∷ e ++ f)
  abs : {A e : List Label} → IsTy A → IsExpr e → IsExpr (the 18 ∷ variable ∷ A ++ e)
  tapp : {e A : List Label} → IsExpr e → IsTy A → IsExpr (the 19 ∷ e ++ A)
  tabs : {e : List Label} → IsExpr e → IsExpr (the 20 ∷ type_name ∷ e)
  ann : {e A : List Label} → IsExpr e → IsTy A → IsExpr (the 21 ∷ e ++ A)
  lit_int : IsExpr (the 22 ∷ half ∷ half ∷ [])
  lit_bool : IsExpr (the 23 ∷ truth ∷ [])
  let_in : {e f : List Label} → IsExpr e → IsExpr f → IsExpr (the 24 ∷ variable ∷ e ++ f)
  if_then_else : {e f g : List Label} → IsExpr e → IsExpr f → IsExpr g → IsExpr (the 25 ∷ e ++ (f ++ g))
  bin_op : {o : ℕ} {e f : List Label} → 1 ≤ o → o ≤ 12 → IsExpr e → IsExpr f → IsExpr (the 26 ∷ the o ∷ e ++ f)

pub data IsEntry : List Label → Type 0 where
  var_bnd : {A : List Label} → IsTy A → IsEntry (the 32 ∷ variable ∷ A)
  tvar_bnd : IsEntry (the 33 ∷ type_name ∷ [])
  etvar_bnd : IsEntry (the 34 ∷ type_name ∷ [])
  setvar_bnd : {A : List Label} → IsTy A → IsEntry (the 35 ∷ type_name ∷ A)
  mark : IsEntry (the 36 ∷ type_name ∷ [])

pub data IsCtx : List Label → Type 0 where
  no_entry : IsCtx []
  entry : {e Γ : List Label} → IsEntry e → IsCtx Γ → IsCtx (e ++ Γ)

-- ---- Questions: kind, mode, and "four sections in this order, each after its word count: context, expression, left type, right type"

abbrev pub ask : ℕ → ℕ → List Label → List Label → List Label → List Label → List Label
ask k m c e l r = the k ∷ the m ∷ section c ++ (section e ++ (section l ++ section r))

-- the one ETVar of kinds 5 and 6
abbrev pub unknown : List Label
unknown = the 4 ∷ type_name ∷ []

pub data IsQuestion : List Label → Type 0 where
  infer : {m : ℕ} {c e : List Label} → m ≤ 1 → IsCtx c → IsExpr e → IsQuestion (ask 1 m c e [] [])
  check : {m : ℕ} {c e r : List Label} → m ≤ 1 → IsCtx c → IsExpr e → IsTy r → IsQuestion (ask 2 m c e [] r)
  infer_app : {m : ℕ} {c e l : List Label} → m ≤ 1 → IsCtx c → IsExpr e → IsTy l → IsQuestion (ask 3 m c e l [])
  subtype : {m : ℕ} {c l r : List Label} → m ≤ 1 → IsCtx c → IsTy l → IsTy r → IsQuestion (ask 4 m c [] l r)
  inst_l : {m : ℕ} {c r : List Label} → m ≤ 1 → IsCtx c → IsTy r → IsQuestion (ask 5 m c [] unknown r)
  inst_r : {m : ℕ} {c l : List Label} → m ≤ 1 → IsCtx c → IsTy l → IsQuestion (ask 6 m c [] l unknown)
  run : {m : ℕ} {e : List Label} → m ≤ 1 → IsExpr e → IsQuestion (ask 7 m [] e [] [])

-- ---- Reports, by the reply's code: type, context and tree on 0, nothing on 1 to 7, the two types of a type error from 11 on

pub data IsTyOrNone : List Label → Type 0 where
  no_ty : IsTyOrNone []
  a_ty : {A : List Label} → IsTy A → IsTyOrNone A

-- nodes, parent first: rule, number of children and place, and five sections
pub data IsNodes : List Label → Type 0 where
  no_node : IsNodes []
  node : {r n p : ℕ} {i A B o C v : List Label} → IsCtx i → IsTyOrNone A → IsTyOrNone B → IsCtx o → IsTyOrNone C → IsNodes v
      → IsNodes (the r ∷ the n ∷ the p ∷ section i ++ (section A ++ (section B ++ (section o ++ (section C ++ v)))))

pub data IsReport : ℕ → List Label → Type 0 where
  result : {A Γ t : List Label} → IsTyOrNone A → IsCtx Γ → IsNodes t → IsReport 0 (section A ++ (section Γ ++ section t))
  empty : {c : ℕ} → 1 ≤ c → c ≤ 7 → IsReport c []
  error : {c : ℕ} {A B : List Label} → 11 ≤ c → IsTyOrNone A → IsTyOrNone B → IsReport c (section A ++ section B)

-- ---- A pairing says which names go together, one to one.

pub record OneToOne (R : ℕ → ℕ → Type 0) : Type 0 where
  pub right : {a b c : ℕ} → R a b → R a c → b ≡ c
  pub left : {a b c : ℕ} → R a c → R b c → a ≡ b

pub record Pairing : Type 1 where
  pub variables : ℕ → ℕ → Type 0
  pub types : ℕ → ℕ → Type 0
  pub variables_pair : OneToOne variables
  pub types_pair : OneToOne types

-- every name with itself
pub alone : OneToOne (λ a b. a ≡ b)
alone = record { right = λ p q. cc; left = λ p q. cc }

abbrev pub itself : Pairing
itself = record { variables = λ a b. a ≡ b; types = λ a b. a ≡ b; variables_pair = alone; types_pair = alone }

-- "Written names are below 1,000,000."
pub record Written (R : ℕ → ℕ → Type 0) (a a' : ℕ) : Type 0 where
  pub paired : R a a'
  pub low : a < 1_000_000
  pub low' : a' < 1_000_000

-- a type name in a reply: a written one, or "the k-th fresh name", which pairs with itself
pub data ReplyName (R : ℕ → ℕ → Type 0) : ℕ → ℕ → Type 0 where
  written : {a a' : ℕ} → Written R a a' → ReplyName R a a'
  fresh : (k : ℕ) → ReplyName R (1_000_000 + k) (1_000_000 + k)

-- ---- Two words under one label, in two replies and in two questions

pub data InReplies (P : Pairing) : Label → ℕ → ℕ → Type 0 where
  same : {n : ℕ} → InReplies P (the n) n n
  variables : {x x' : ℕ} → Written P.variables x x' → InReplies P variable x x'
  type_names : {a a' : ℕ} → ReplyName P.types a a' → InReplies P type_name a a'

pub data InQuestions (P : Pairing) : Label → ℕ → ℕ → Type 0 where
  same : {n : ℕ} → InQuestions P (the n) n n
  variables : {x x' : ℕ} → Written P.variables x x' → InQuestions P variable x x'
  type_names : {a a' : ℕ} → Written P.types a a' → InQuestions P type_name a a'
  halves : {w w' : ℕ} → InQuestions P half w w'
  truths : {w w' : ℕ} → w ≤ 1 → w' ≤ 1 → InQuestions P truth w w'

-- ---- Two lists of words, word by word under the same labels

pub data Each (R : Label → ℕ → ℕ → Type 0) : List Label → List ℕ → List ℕ → Type 0 where
  none : Each R [] [] []
  more : {k : Label} {w w' : ℕ} {s : List Label} {u u' : List ℕ} → R k w w' → Each R s u u' → Each R (k ∷ s) (w ∷ u) (w' ∷ u')

pub record Alike (R : Label → ℕ → ℕ → Type 0) (Is : List Label → Type 0) (u u' : List ℕ) : Type 0 where
  pub labels : List Label
  pub format : Is labels
  pub words : Each R labels u u'

abbrev pub AlikeQuestions : Pairing → List ℕ → List ℕ → Type 0
AlikeQuestions P = Alike (InQuestions P) IsQuestion

-- ---- Replies: the same code, length and units; `at` the same, or paired where it is a name

abbrev pub at_label : ℕ → ℕ → Label
at_label c p = pick (eqb c 11) variable (pick (eqb c 14) type_name (the p))

pub record AlikeReplies (P : Pairing) (r r' : Reply) : Type 0 where
  pub code : r.code ≡ r'.code
  pub at : InReplies P (at_label r.code r.at) r.at r'.at
  pub len : r.len ≡ r'.len
  pub units : r.units ≡ r'.units
  pub report : Alike (InReplies P) (IsReport r.code) r.report r'.report

-- ---- Calls: replies alike, the report slices the reports and then the same words, the work slices the same

pub record AlikeCalls (P : Pairing) (c c' : Call) : Type 0 where
  pub answered : AlikeReplies P c.answered c'.answered
  pub rest : List ℕ
  pub report_slice : c.report_slice ≡ c.answered.report ++ rest
  pub report_slice' : c'.report_slice ≡ c'.answered.report ++ rest
  pub work_slice : c.work_slice ≡ c'.work_slice

-- "well-formed": read to its end without a fault
pub record WellFormed (ws : List ℕ) : Type 0 where
  pub question : Question
  pub place : ℕ
  pub read : read_question ws ≡ got question place []
