-- The whole question: what is asked, and where its parts stand.
use Rattle.std.specs.Prelude.{ℕ, ◌≤◌, ◌≡◌, List, [], length, Result, Ok, Err}
use Rattle.definition.specs.Syntax as syntax
use Rattle.definition.specs.Syntax.{TyVar, Ctx, Judgement, infer, check, infer_app, subtype, inst, on_l, on_r}
use Rattle.definition.specs.Question as question
use Rattle.definition.specs.Question.{Read, got, fault, Reader, ◌>>=◌, give, bad_shape, row, end, plain, strict, kind_rows, read_question}
use Rattle.layout.specs.Places.{TyAt, ExprAt}
use Rattle.layout.specs.Kinds.{kind_number}
use Rattle.layout.specs.declared.Kind.{Kind}
use Rattle.reading.specs.declared.Fault.{Fault}
use Rattle.reading.specs.declared.Holds.{Holds}
use Rattle.reading.specs.declared.Holds.TheVariants.{Nothing, Entries, Expr, Ty, ETVar}
use Rattle.reading.specs.declared.Mode.{Mode}
use Rattle.reading.specs.declared.Mode.TheVariants.{Plain, Strict}
use Rattle.reading.specs.declared.Question.{Question}
use Rattle.reading.specs.Faults.{refusal_code, fault_of}
use Rattle.reading.specs.Items.{from}
use Rattle.reading.specs.Contexts.{ListTo}

-- "sections filled": the kind, and what the context, the expression, the left and the right type's sections hold
pub data Planned : ℕ → Holds → Holds → Holds → Holds → Type 0 where
  infers : Planned 1 Entries Expr Nothing Nothing
  checks : Planned 2 Entries Expr Nothing Ty
  applies : Planned 3 Entries Expr Ty Nothing
  compares : Planned 4 Entries Nothing Ty Ty
  solves_left : Planned 5 Entries Nothing ETVar Ty
  solves_right : Planned 6 Entries Nothing Ty ETVar
  runs : Planned 7 Nothing Expr Nothing Nothing

-- the context Γ stands where the answer x says, with as many entries
pub record ContextAt (q : List ℕ) (x : Question) (Γ : Ctx) : Type 0 where
  pub past : ℕ
  pub list : ListTo q x.context Γ x.entries past

-- the parts of the judgement that a kind asks for stand where the answer x says, and a part that it has not is at 0
pub data AsksAt (q : List ℕ) (x : Question) : ℕ → Judgement → Type 0 where
  infers_at : {Γ : Ctx} {e : syntax.Expr} → ContextAt q x Γ → ExprAt q x.expr e → x.left ≡ 0 → x.right ≡ 0 → AsksAt q x 1 (infer Γ e)
  checks_at : {Γ : Ctx} {e : syntax.Expr} {B : syntax.Ty} → ContextAt q x Γ → ExprAt q x.expr e → x.left ≡ 0 → TyAt q x.right B
      → AsksAt q x 2 (check Γ e B)
  applies_at : {Γ : Ctx} {e : syntax.Expr} {A : syntax.Ty} → ContextAt q x Γ → ExprAt q x.expr e → TyAt q x.left A → x.right ≡ 0
      → AsksAt q x 3 (infer_app Γ e A)
  compares_at : {Γ : Ctx} {A B : syntax.Ty} → ContextAt q x Γ → x.expr ≡ 0 → TyAt q x.left A → TyAt q x.right B
      → AsksAt q x 4 (subtype Γ A B)
  solves_left_at : {Γ : Ctx} {a : TyVar} {B : syntax.Ty} → ContextAt q x Γ → x.expr ≡ 0 → TyAt q x.left (syntax.etvar a)
      → TyAt q x.right B → AsksAt q x 5 (inst on_l Γ a B)
  solves_right_at : {Γ : Ctx} {a : TyVar} {A : syntax.Ty} → ContextAt q x Γ → x.expr ≡ 0 → TyAt q x.left A
      → TyAt q x.right (syntax.etvar a) → AsksAt q x 6 (inst on_r Γ a A)
  runs_at : {e : syntax.Expr} → ContextAt q x [] → ExprAt q x.expr e → x.left ≡ 0 → x.right ≡ 0 → AsksAt q x 7 (infer [] e)

-- the four sections of a kind's question, and nothing after them
abbrev pub judgement : ℕ → Reader Judgement
judgement k = do j ← row k kind_rows (bad_shape 0); u ← end; give j

pub data JudgementRead (q : List ℕ) (kind : Kind) (mode : Mode) : Result Question Fault → Read Judgement → Type 0 where
  asked : {x : Question} {j : Judgement} → x.kind ≡ kind → x.mode ≡ mode → AsksAt q x (kind_number kind) j
      → JudgementRead q kind mode (Ok x) (got j (length q) [])
  refused : {f : Fault} → f.at ≤ length q → JudgementRead q kind mode (Err f) (fault_of f)

abbrev pub SectionsRead : List ℕ → Kind → Mode → Result Question Fault → Type 0
SectionsRead q kind mode r = JudgementRead q kind mode r (judgement (kind_number kind) 2 (from q 2 (length q)))

-- the definition's mode
pub data ModeIs : Mode → question.Mode → Type 0 where
  plainly : ModeIs Plain plain
  strictly : ModeIs Strict strict

-- the definition accepts the question, and its parts stand where the answer x says
pub record Accepted (q : List ℕ) (x : Question) : Type 0 where
  pub asked : question.Question
  pub is : read_question q ≡ got asked (length q) []
  pub kind : kind_number x.kind ≡ asked.kind
  pub mode : ModeIs x.mode asked.manner
  pub asks : AsksAt q x asked.kind asked.asks

-- a fault of reading: 4 or 5, and a place not past the end e
pub record FaultIn (e c p : ℕ) : Type 0 where
  pub least : 4 ≤ c
  pub most : c ≤ 5
  pub place : p ≤ e

-- the definition refuses it, with the same code at the same place
pub record Refused (q : List ℕ) (c p : ℕ) : Type 0 where
  pub is : read_question q ≡ fault c p
  pub within : FaultIn (length q) c p

-- the answer is the definition's
abbrev pub ReadIs : List ℕ → Result Question Fault → Type 0
ReadIs q (Ok x) = Accepted q x
ReadIs q (Err f) = Refused q (refusal_code f.why) f.at
