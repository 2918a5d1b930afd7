-- Reading an item: what the program answers is what the definition's reader says, and what was read stands in the question.
use Rattle.std.specs.Prelude.{ℕ, ◌+◌, ◌≤◌, ◌<◌, ◌≡◌, List, length, get_or, Result, Ok, Err, MatchResult}
use Rattle.std.proofs.Math.Seq.{slice}
use Rattle.definition.specs.Syntax.{Ty, Expr}
use Rattle.definition.specs.Question.{Read, got, within, written, type, expression}
use Rattle.layout.specs.Places.{size, expr_size, WordAt, TyAt, ExprAt}
use Rattle.reading.specs.declared.Fault.{Fault}
use Rattle.reading.specs.Faults.{bad_shape, fault_of}

-- the question's words from p up to e
abbrev pub from : List ℕ → ℕ → ℕ → List ℕ
from q p e = slice p e q

-- a place in a section that ends at e
pub record Inside (q : List ℕ) (p e : ℕ) : Type 0 where
  pub low : p ≤ e
  pub high : e ≤ length q
  pub small : length q ≤ 2048

-- what stands from p up to m: a word, a number from low to high, a type, an expression
pub record WordTo (q : List ℕ) (p n m : ℕ) : Type 0 where
  pub at : WordAt q p n
  pub to : p + 1 ≡ m

pub record WithinTo (q : List ℕ) (p low high n m : ℕ) : Type 0 where
  pub word : WordTo q p n m
  pub least : low ≤ n
  pub most : n ≤ high

pub record TyTo (q : List ℕ) (p : ℕ) (A : Ty) (m : ℕ) : Type 0 where
  pub at : TyAt q p A
  pub to : p + size A ≡ m

pub record ExprTo (q : List ℕ) (p : ℕ) (e : Expr) (m : ℕ) : Type 0 where
  pub at : ExprAt q p e
  pub to : p + expr_size e ≡ m

-- the answer r is what a reader says of a section's words up to e; what it got stands up to the next place
pub data Reads {A : Type 0} (q : List ℕ) (e : ℕ) (Stands : A → ℕ → Type 0) : Result ℕ Fault → Read A → Type 0 where
  past : {a : A} {m : ℕ} → Stands a m → m ≤ e → Reads q e Stands (Ok m) (got a m (from q m e))
  refused : {f : Fault} → f.at ≤ e → Reads q e Stands (Err f) (fault_of f)

-- ## Each reader

-- the word w stands at p, before the section's end
pub record Word (q : List ℕ) (p e w : ℕ) : Type 0 where
  pub inside : p < e
  pub is : get_or q p 0 ≡ w

abbrev pub WordRead : List ℕ → ℕ → ℕ → Result ℕ Fault → Type 0
WordRead q p e r = MatchResult r (Word q p e) (λ f. (e ≤ p) × (f ≡ bad_shape p))

abbrev pub NameRead : List ℕ → ℕ → ℕ → Result ℕ Fault → Type 0
NameRead q p e r = Reads q e (WordTo q p) r (written p (from q p e))

abbrev pub WithinRead : List ℕ → ℕ → ℕ → ℕ → ℕ → Result ℕ Fault → Type 0
WithinRead q p e low high r = Reads q e (WithinTo q p low high) r (within low high p (from q p e))

abbrev pub TypeRead : List ℕ → ℕ → ℕ → Result ℕ Fault → Type 0
TypeRead q p e r = Reads q e (TyTo q p) r (type written p (from q p e))

abbrev pub ExprRead : List ℕ → ℕ → ℕ → Result ℕ Fault → Type 0
ExprRead q p e r = Reads q e (ExprTo q p) r (expression p (from q p e))
