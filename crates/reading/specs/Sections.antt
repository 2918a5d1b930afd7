-- Sections: what each kind's hold, and what reading one leaves.
use Rattle.std.specs.Prelude.{ℕ, ◌+◌, ◌≡◌, List, length, Result, Ok, Err}
use Rattle.definition.specs.Syntax as syntax
use Rattle.definition.specs.Syntax.{TyVar, Ctx}
use Rattle.definition.specs.Question.{Reader, written, type, expression, context, counted, empty, unknown}
use Rattle.layout.specs.Places.{TyAt, ExprAt}
use Rattle.reading.specs.declared.Fault.{Fault}
use Rattle.reading.specs.declared.Part.{Part}
use Rattle.reading.specs.declared.Holds.{Holds}
use Rattle.reading.specs.declared.Holds.TheVariants.{Nothing, Entries, Expr, Ty, ETVar}
use Rattle.reading.specs.Faults.{bad_shape}
use Rattle.reading.specs.Items.{from, TyTo, Reads}
use Rattle.reading.specs.Contexts.{ListTo, Leaves}

-- ## One item that takes up a section

-- the one ETVar of kinds 5 and 6
abbrev pub UnknownTo : List ℕ → ℕ → TyVar → ℕ → Type 0
UnknownTo q p a m = TyTo q p (syntax.etvar a) m

abbrev pub UnknownRead : List ℕ → ℕ → ℕ → Result ℕ Fault → Type 0
UnknownRead q p e r = Reads q e (UnknownTo q p) r (unknown p (from q p e))

-- the item from p up to m takes up the words to e; one that ends before them is a fault there
pub data Whole (p e : ℕ) : ℕ → Result Part Fault → Type 0 where
  exact : Whole p e e (Ok (record { value = p; past = e }))
  early : {m : ℕ} → (m ≡ e → ⊥) → Whole p e m (Err (bad_shape m))

-- ## What a section holds, how it is read, and what stands after its count at p

abbrev pub Content : Holds → Type 0
Content Nothing = ℕ
Content Entries = Ctx
Content Expr = syntax.Expr
Content Ty = syntax.Ty
Content ETVar = TyVar

abbrev pub section : (h : Holds) → Reader (Content h)
section Nothing = empty
section Entries = counted (context written)
section Expr = counted expression
section Ty = counted (type written)
section ETVar = counted unknown

pub data ContentAt (q : List ℕ) (p : ℕ) : (h : Holds) → Content h → ℕ → ℕ → Type 0 where
  nothing_at : {n m : ℕ} → ContentAt q p Nothing n 0 m
  entries_at : {Γ : Ctx} {v m : ℕ} → ListTo q (p + 1) Γ v m → ContentAt q p Entries Γ v m
  expr_at : {f : syntax.Expr} {v m : ℕ} → ExprAt q v f → ContentAt q p Expr f v m
  ty_at : {A : syntax.Ty} {v m : ℕ} → TyAt q v A → ContentAt q p Ty A v m
  etvar_at : {a : TyVar} {v m : ℕ} → TyAt q v (syntax.etvar a) → ContentAt q p ETVar a v m

abbrev pub SectionRead : List ℕ → ℕ → Holds → Result Part Fault → Type 0
SectionRead q p h r = Leaves q (length q) (ContentAt q p h) r (section h p (from q p (length q)))
