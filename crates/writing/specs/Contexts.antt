-- Entries and contexts by their words.
use Rattle.std.specs.Prelude.{Bool, ◌||◌, Option, List, ℕ, ◌+◌, eqb, get_or}
use Rattle.std.specs.Bool.{then_some}
use Rattle.definition.specs.Syntax.{entry_words, ctx_words}
use Rattle.layout.specs.Denotes.{EntryAt, Run}
use Rattle.layout.specs.declared.Span.{Span}
use Rattle.writing.specs.Spelling.{Spells}

abbrev pub holds_type : ℕ → Bool
holds_type k = eqb k 32 || eqb k 35

-- the type that the entry at a place holds
abbrev pub held_at : List ℕ → ℕ → Option ℕ
held_at w at = then_some (holds_type (get_or w at 0)) (get_or w (at + 2) 0)

abbrev pub OfEntry : List ℕ → List ℕ → ℕ → ℕ → List ℕ → Type 0
OfEntry q w t at = Spells (EntryAt q w t at) entry_words

-- n entries from a place on
abbrev pub OfEntries : List ℕ → List ℕ → ℕ → ℕ → ℕ → List ℕ → Type 0
OfEntries q w t at n = Spells (Run q w t at n) ctx_words

abbrev pub OfContext : List ℕ → List ℕ → ℕ → Span → List ℕ → Type 0
OfContext q w t g = OfEntries q w t g.at g.n
