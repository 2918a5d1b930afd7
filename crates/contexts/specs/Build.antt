-- What is built at top from a run of entries.
use Rattle.std.specs.Prelude.{◌≡◌, List, [], ◌∷◌, ◌++◌, ℕ, ◌+◌, ◌-◌, ◌*◌, ◌≤◌, ◌<◌, length, get_or}
use Rattle.definition.specs.Syntax.{TyVar, Entry, Ctx}
use Rattle.definition.specs.Contexts.{Key, replace, solved, solved_and_right}
use Rattle.layout.specs.Sizes.{CAP}
use Rattle.layout.specs.Words.{Keep, Copied}
use Rattle.layout.specs.Denotes.{AsEntry, SmallEntry, CtxAt, Run}
use Rattle.layout.specs.declared.Entry as program
use Rattle.layout.specs.declared.Span.{Span}
use Rattle.layout.specs.declared.State.{State}
use Rattle.contexts.specs.declared.Opened.{Opened}

-- a run lies below top, and above there is room for its entries and m more
pub record Space (w : List ℕ) (s : State) (g : Span) (m : ℕ) : Type 0 where
  pub below : g.at + 4 * g.n ≤ s.top
  pub room : s.top + 4 * (g.n + m) ≤ s.low
  pub low : s.low ≤ length w
  pub cap : length w ≤ CAP

-- o is the run of n entries at top, and the state past it
pub record Past (s : State) (n : ℕ) (o : Opened) : Type 0 where
  pub at : o.g.at ≡ s.top
  pub count : o.g.n ≡ n
  pub top : o.st.top ≡ s.top + 4 * n
  pub low : o.st.low ≡ s.low
  pub left : o.st.left ≡ s.left
  pub fresh : o.st.fresh ≡ s.fresh

-- n entries stand at top, and no word but theirs has changed
pub record Grown (w w' : List ℕ) (s : State) (n : ℕ) (o : Opened) : Type 0 where
  pub past : Past s n o
  pub keep : Keep s.top (s.top + 4 * n) w w'

-- the m entries right of i were copied
pub record CopiedRight (w w' : List ℕ) (g : Span) (i to m : ℕ) : Type 0 where
  pub count : m ≡ g.n - (i + 1)
  pub copied : Copied w w' (g.at + 4 * (i + 1)) to (4 * m)

-- the entries left of i stand at top, and those right of it past a gap of m entries
pub record Spliced (w w' : List ℕ) (s : State) (g : Span) (i m : ℕ) (o : Opened) : Type 0 where
  pub grown : Grown w w' s (i + m + (g.n - (i + 1))) o
  pub left : (j : ℕ) → j < 4 * i → get_or w' (s.top + j) 0 ≡ get_or w (g.at + j) 0
  pub right : (j : ℕ) → j < 4 * (g.n - (i + 1)) → get_or w' (s.top + 4 * (i + m) + j) 0 ≡ get_or w (g.at + 4 * (i + 1) + j) 0

-- each can be put into words
pub data SmallEntries : List program.Entry → Type 0 where
  no_entries : SmallEntries []
  small_entry : {p : program.Entry} {ps : List program.Entry} → SmallEntry p → SmallEntries ps → SmallEntries (p ∷ ps)

-- the program's entries ps are the context's entries es
pub data AsEntries (q w : List ℕ) (t : ℕ) : List program.Entry → Ctx → Type 0 where
  no_more : AsEntries q w t [] []
  then : {p : program.Entry} {ps : List program.Entry} {e : Entry} {es : Ctx} → AsEntry q w t p e → AsEntries q w t ps es
      → AsEntries q w t (p ∷ ps) (e ∷ es)

-- entries were put from a place of work on: whatever they are below t, they stand there
pub record Put (w w' : List ℕ) (at : ℕ) (ps : List program.Entry) : Type 0 where
  pub keep : Keep at (at + 4 * length ps) w w'
  pub stand : {q : List ℕ} {t : ℕ} {es : Ctx} → t ≤ at → AsEntries q w t ps es → CtxAt q w' (at + 4 * length ps) at es

-- entries were pushed
pub record Pushed (w w' : List ℕ) (s : State) (g : Span) (ps : List program.Entry) (o : Opened) : Type 0 where
  pub grown : Grown w w' s (g.n + length ps) o
  pub run : {q : List ℕ} {Γ es : Ctx} → Run q w s.top g.at g.n Γ → AsEntries q w s.top ps es
      → Run q w' o.st.top o.g.at o.g.n (Γ ++ es)

-- entries stand in the place of the earliest unsolved a, or at the end
pub record Replaced (w w' : List ℕ) (s : State) (g : Span) (a : TyVar) (ps : List program.Entry) (o : Opened) : Type 0 where
  pub grown : Grown w w' s o.g.n o
  pub few : o.g.n ≤ g.n + length ps
  pub run : {q : List ℕ} {Γ es : Ctx} → Run q w s.top g.at g.n Γ → AsEntries q w s.top ps es
      → Run q w' o.st.top o.g.at o.g.n (replace a es Γ)

-- the m solved ones of n entries were copied
pub record Kept (w w' : List ℕ) (at n to m : ℕ) : Type 0 where
  pub keep : Keep to (to + 4 * m) w w'
  pub few : m ≤ n
  pub run : {q : List ℕ} {t : ℕ} {Γ : Ctx} → t ≤ to → Run q w t at n Γ → Run q w' (to + 4 * m) to m (solved Γ)

-- the solved entries left of the earliest entry that has the key, and all that are right of it, were copied
pub record KeptBoth (w w' : List ℕ) (s : State) (g : Span) (k : Key) (o : Opened) : Type 0 where
  pub grown : Grown w w' s o.g.n o
  pub few : o.g.n ≤ g.n
  pub run : {q : List ℕ} {Γ : Ctx} → Run q w s.top g.at g.n Γ → Run q w' o.st.top o.g.at o.g.n (solved_and_right k Γ)
