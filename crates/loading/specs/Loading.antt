-- The question's context becomes a run of entries in work.
use Rattle.std.specs.Prelude.{◌≡◌, List, ◌⊎◌, ℕ, ◌+◌, ◌*◌, ◌≤◌, ◌<◌, ◌^◌, length}
use Rattle.definition.specs.Syntax.{Ctx}
use Rattle.layout.specs.Sizes.{BASE, INT, ENDS, CAP}
use Rattle.layout.specs.Words.{Keep}
use Rattle.layout.specs.Monotypes.{past}
use Rattle.layout.specs.Denotes.{Base, CtxAt, Run}
use Rattle.layout.specs.declared.State.{State}
use Rattle.contexts.specs.Build.{Past}
use Rattle.contexts.specs.declared.Opened.{Opened}
use Rattle.reading.specs.Contexts.{ListTo}
use Rattle.loading.specs.declared.Rest.{Rest}

-- an entry of one of these kinds holds a type
abbrev pub TypedKind : ℕ → Type 0
TypedKind kind = (kind ≡ 32) ⊎ (kind ≡ 35)

pub record Readable (w : List ℕ) (kind p : ℕ) : Type 0 where
  pub place : p < BASE
  pub table : TypedKind kind → ENDS + (p + 2) < length w

-- the type stands after the name, and ends where the table says
pub record EntryRest (w : List ℕ) (kind p : ℕ) (r : Rest) : Type 0 where
  pub held : TypedKind kind → (r.ty ≡ p + 2) × (r.next ≡ past w (p + 2))
  pub bare : (TypedKind kind → ⊥) → (r.ty ≡ INT) × (r.next ≡ p + 2)
  pub small : r.ty < 2 ^ 32

-- n entries stand in the question from p on, and there is room for them from a place of work on, above the table
pub record Loads (q w : List ℕ) (p at n : ℕ) : Type 0 where
  pub base : Base q w at
  pub room : at + 4 * n ≤ length w
  pub cap : length w ≤ CAP
  pub Γ : Ctx
  pub end : ℕ
  pub list : ListTo q p Γ n end

pub record LoadedFrom (q w w' : List ℕ) (p at n : ℕ) : Type 0 where
  pub keep : Keep at (at + 4 * n) w w'
  pub run : (Γ : Ctx) (end : ℕ) → ListTo q p Γ n end → CtxAt q w' (at + 4 * n) at Γ

pub record Loading (q w : List ℕ) (s : State) (p n : ℕ) : Type 0 where
  pub loads : Loads q w p s.top n

pub record Loaded (q w w' : List ℕ) (s : State) (p n : ℕ) (o : Opened) : Type 0 where
  pub past : Past s n o
  pub keep : Keep s.top (s.top + 4 * n) w w'
  pub run : (Γ : Ctx) (end : ℕ) → ListTo q p Γ n end → Run q w' o.st.top o.g.at o.g.n Γ
