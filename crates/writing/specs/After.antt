-- A context's section after another: how long it is, and where it stands in the report, by those of the other.
use Rattle.std.specs.Prelude.{◌≡◌, List, ℕ, ◌+◌, ◌≤◌, ◌<◌, ◌^◌, length, get_or}
use Rattle.layout.specs.declared.Span.{Span}
use Rattle.writing.specs.declared.Known.{Known}
use Rattle.writing.specs.declared.Standing.{Standing}
use Rattle.writing.specs.Spelling.{AfterCount, Long, RoomAt, Writes}
use Rattle.writing.specs.Contexts.{OfContext}

-- k has the length of g's section
pub record Measures (q w : List ℕ) (t : ℕ) (g : Span) (k : Known) : Type 0 where
  pub span : k.g ≡ g
  pub long : Long (2 ^ 32) (AfterCount (OfContext q w t g)) k.length

-- the words of s from at to end are ws
pub record WordsAt (s : List ℕ) (at end : ℕ) (ws : List ℕ) : Type 0 where
  pub end_is : end ≡ at + length ws
  pub same : (i : ℕ) → i < length ws → get_or s (at + i) 0 ≡ get_or ws i 0

-- where there is room for it, k's section stands where k says, before the place p
pub record Stands (q w : List ℕ) (t : ℕ) (s : List ℕ) (p : ℕ) (k : Standing) : Type 0 where
  pub below : (k.at ≤ k.end) × (k.end ≤ p)
  pub reads : (ws : List ℕ) → AfterCount (OfContext q w t k.g) ws → RoomAt s k.at ws → WordsAt s k.at k.end ws

-- g's section was written at p, and k says that it stands there
pub record WritesAfter (q w : List ℕ) (t : ℕ) (g : Span) (s s' : List ℕ) (p : ℕ) (k : Standing) : Type 0 where
  pub span : k.g ≡ g
  pub place : k.at ≡ p
  pub writes : Writes (AfterCount (OfContext q w t g)) s s' p k.end
  pub stands : Stands q w t s' k.end k
