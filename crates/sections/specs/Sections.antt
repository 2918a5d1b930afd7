-- The sections of a report: "the part of the caller's report slice it fills, count excluded, empty where there is none".
use Rattle.std.specs.Prelude.{◌≡◌, Bool, ◌&&◌, List, [], ℕ, zero, suc, ◌+◌, ◌-◌, ◌≤◌, length, get_or, take, drop, eqb, ltb, leb}
use Rattle.definition.specs.Syntax.{pick}
use Rattle.definition.specs.Reply.{last_error}
use Rattle.replies.specs.declared.Reply.{Reply}
use Rattle.sections.specs.declared.Bounds.{Bounds}
use Rattle.sections.specs.declared.Section.{Section}
use Rattle.sections.specs.declared.Section.TheVariants.{Ty, Context, Tree, First, Second}

-- ## Sections one after the other, each after its count

-- from and to of the words of the section whose count stands at a place; both the end where there is none
unfoldable pub bounds_at : List ℕ → ℕ → ℕ × ℕ
bounds_at ws at =
    let n : ℕ = get_or ws at 0 in
    pick (ltb at (length ws)) (pick (leb n (length ws - (at + 1))) (at + 1, at + 1 + n) (length ws, length ws)) (length ws, length ws)

-- section k: the next one's count stands where the words of this one end
unfoldable pub bounds_of : ℕ → List ℕ → ℕ × ℕ
bounds_of zero ws = bounds_at ws 0
bounds_of (suc k) ws = bounds_at ws (bounds_of k ws).1

unfoldable pub section_of : ℕ → List ℕ → List ℕ
section_of k ws = take ((bounds_of k ws).1 - (bounds_of k ws).0) (drop (bounds_of k ws).0 ws)

-- ## A report's sections, by its reply's code

-- the codes of type errors, "11 UnboundVariable" to "17 ParameterMismatch"
abbrev pub is_error : ℕ → Bool
is_error code = leb 11 code && leb code last_error

-- "On 0 the report has three sections", "A type error's report is two type sections"; a reply with another code has none
abbrev pub has_section : Section → ℕ → Bool
has_section Ty code = eqb code 0
has_section Context code = eqb code 0
has_section Tree code = eqb code 0
has_section First code = is_error code
has_section Second code = is_error code

-- "type (count 0 for kinds 2, 4, 5, 6), context, tree"; "actual or ty in the first, or left and right"
abbrev pub order_of : Section → ℕ
order_of Ty = 0
order_of Context = 1
order_of Tree = 2
order_of First = 0
order_of Second = 1

-- from and to of the words of a section; both 0 where the reply has none
unfoldable pub bounds_in : Section → ℕ → List ℕ → ℕ × ℕ
bounds_in s code ws = pick (has_section s code) (bounds_of (order_of s) ws) (0, 0)

-- "empty where there is none"
unfoldable pub part_of : Section → ℕ → List ℕ → List ℕ
part_of s code ws = pick (has_section s code) (section_of (order_of s) ws) []

-- `unfolding sections_compute` opens every definition above
unfoldable pub sections_compute : Unit {0}
unfolding pick bounds_at bounds_of section_of bounds_in part_of
sections_compute = tt

-- where a section stands in the report slice ws of a reply, and what stands there
pub record PlacedPart (ws : List ℕ) (r : Reply) (s : Section) (b : Bounds) : Type 0 where
  pub place : bounds_in s r.code (take r.len ws) ≡ (b.from, b.to)
  pub is : take (b.to - b.from) (drop b.from ws) ≡ part_of s r.code (take r.len ws)
  pub order : b.from ≤ b.to
  pub within : b.to ≤ length ws

-- ## Inside: within the first n words of a slice

pub record PartAt (ws : List ℕ) (n at : ℕ) (b : Bounds) : Type 0 where
  pub is : bounds_at (take n ws) at ≡ (b.from, b.to)
  pub order : b.from ≤ b.to
  pub within : b.to ≤ n

pub record PartOf (ws : List ℕ) (len k : ℕ) (b : Bounds) : Type 0 where
  pub place : bounds_of k (take len ws) ≡ (b.from, b.to)
  pub is : take (b.to - b.from) (drop b.from ws) ≡ section_of k (take len ws)
  pub order : b.from ≤ b.to
  pub within : b.to ≤ length ws
