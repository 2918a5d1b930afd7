-- The table of ends: for each place of the question, where the item that stands there ends, and whether a type there is a monotype.
use Rattle.std.specs.Prelude.{ℕ, ◌+◌, ◌%◌, ◌≤◌, ◌<◌, ◌^◌, ◌≡◌, List, length, get_or}
use Rattle.definition.specs.Syntax.{Ty, Expr}
use Rattle.definition.specs.Types.{is_mono}
use Rattle.layout.specs.Sizes.{ENDS, FLOOR, MONO}
use Rattle.layout.specs.Monotypes.{with_mono, past}
use Rattle.layout.specs.Places.{size, expr_size, TyAt, ExprAt}
use Rattle.layout.specs.Words.{Keep}
use Rattle.layout.specs.Denotes.{Base}

-- an item stands from p up to m
pub data Spans (q : List ℕ) (p m : ℕ) : Type 0 where
  ty_spans : {A : Ty} → TyAt q p A → p + size A ≡ m → Spans q p m
  expr_spans : {f : Expr} → ExprAt q p f → p + expr_size f ≡ m → Spans q p m

-- question and work are as long as the table wants
pub record Sized (q w : List ℕ) : Type 0 where
  pub small : length q ≤ 2048
  pub room : FLOOR ≤ length w

-- from p on, work holds the place past each item, of a type with the monotype mark
pub record Table (q w : List ℕ) (p : ℕ) : Type 0 where
  pub ends : (i m : ℕ) → p ≤ i → Spans q i m → past w i ≡ m
  pub types : (i : ℕ) (A : Ty) → p ≤ i → TyAt q i A → get_or w (ENDS + i) 0 ≡ with_mono (i + size A) (is_mono A)

pub record ReadyAt (q w : List ℕ) (p : ℕ) : Type 0 where
  pub sized : Sized q w
  pub within : p < length q
  pub table : Table q w (p + 1)

-- no type without parts stands at p
pub record NoLeaf (q : List ℕ) (p : ℕ) : Type 0 where
  pub code : 1 ≤ get_or q p 0 → 5 ≤ get_or q p 0

-- what the table has for a place: its word, and the place past the item there
pub record RowAt (q w : List ℕ) (i v : ℕ) : Type 0 where
  pub is : i < length q → v ≡ get_or w (ENDS + i) 0
  pub fits : v < 2 ^ 32

pub record PastIs (q w : List ℕ) (i r : ℕ) : Type 0 where
  pub is : i < length q → r ≡ past w i
  pub fits : r < MONO

-- the table's word for p, where an item stands there
pub record RowIs (q : List ℕ) (p v : ℕ) : Type 0 where
  pub end : (m : ℕ) → Spans q p m → v % MONO ≡ m
  pub type : (A : Ty) → TyAt q p A → v ≡ with_mono (p + size A) (is_mono A)
  pub fits : v < 2 ^ 32

-- the bottom of work is laid, and nothing above it changed
pub record Laid (q w w' : List ℕ) : Type 0 where
  pub base : Base q w' FLOOR
  pub keep : Keep 0 FLOOR w w'
