-- Results and type errors by their words, and what becomes of a report.
use Rattle.std.specs.Prelude.{◌≡◌, Option, Some, None, Result as Outcome, Ok, Err, List, ◌++◌, ℕ, ◌≤◌, ◌<◌, min, length, drop}
use Rattle.definition.specs.Syntax.{leaf, ◌&◌}
use Rattle.definition.specs.Rules.{Result}
use Rattle.definition.specs.Reply.{most, error_words, result_words}
use Rattle.layout.specs.Denotes.{Den, Run}
use Rattle.judging.specs.Nodes.{NodesAt}
use Rattle.judging.specs.Ending.{ShownAt}
use Rattle.judging.specs.declared.Answer.{Answer}
use Rattle.judging.specs.declared.Bad.{Bad}
use Rattle.judging.specs.declared.Shown.{Shown}
use Rattle.judging.specs.declared.Shown.TheVariants.{NoType, OneType, TwoTypes}
use Rattle.writing.specs.Spelling.{Spells, ◌Then◌, AfterCount}
use Rattle.writing.specs.Types.{OfPart}
use Rattle.writing.specs.Contexts.{OfContext}
use Rattle.report.specs.declared.NoRoom.{NoRoom}
use Rattle.report.specs.Nodes.{OfNodes}

-- ## A result

-- the answer a, with its nodes from high down
pub record ResultAt (q w : List ℕ) (a : Answer) (high : ℕ) (r : Result) : Type 0 where
  pub den : Den q w a.st.top a.ty r.0
  pub run : Run q w a.st.top a.g.at a.g.n r.1
  pub nodes : NodesAt q w a.st.top a.st.low high (r.2 & leaf)
  pub within : high ≤ length w

abbrev pub OfResult : List ℕ → List ℕ → ℕ → Answer → ℕ → List ℕ → Type 0
OfResult q w kind a high = Spells (ResultAt q w a high) (result_words kind)

-- its three sections
abbrev pub ResultParts : List ℕ → List ℕ → ℕ → Option ℕ → Answer → ℕ → List ℕ → Type 0
ResultParts q w t ty a high =
    AfterCount (OfPart q w t ty)
    Then AfterCount (OfContext q w t a.g)
    Then AfterCount (OfNodes q w t a.st.low high)

-- ## A type error: the types that it shows

abbrev pub OfError : List ℕ → List ℕ → Bad → List ℕ → Type 0
OfError q w b = Spells (ShownAt q w b.st.top b.shown) error_words

-- what fills its two sections
abbrev pub slots_of : Shown → Option ℕ × Option ℕ
slots_of NoType = (None, None)
slots_of (OneType l) = (Some l, None)
slots_of (TwoTypes l r) = (Some l, Some r)

-- the two sections
abbrev pub ErrorParts : List ℕ → List ℕ → ℕ → Option ℕ × Option ℕ → List ℕ → Type 0
ErrorParts q w t s = AfterCount (OfPart q w t s.0) Then AfterCount (OfPart q w t s.1)

-- ## What becomes of a report: its length, or the one that is needed

-- by its length, which stops past the longest
pub data ByLength (n room : ℕ) : Outcome ℕ NoRoom → Type 0 where
  fits : n ≤ most → n ≤ room → ByLength n room (Ok n)
  too_long : {e : NoRoom} → (n ≤ most → room < n) → e.0 ≡ min n most → ByLength n room (Err e)

-- the words ws are written, and the slice past them is unchanged; or nothing is
pub data Reported (s s' ws : List ℕ) : Outcome ℕ NoRoom → Type 0 where
  reported : {n : ℕ} → length ws ≤ length s → length ws ≤ most → n ≡ length ws → s' ≡ ws ++ drop (length ws) s → Reported s s' ws (Ok n)
  no_room : {e : NoRoom} → (length ws ≤ length s → length ws ≤ most → ⊥) → e.0 ≡ min (length ws) most → s' ≡ s → Reported s s' ws (Err e)

pub record Reports (S : List ℕ → Type 0) (s s' : List ℕ) (z : Outcome ℕ NoRoom) : Type 0 where
  pub is : (ws : List ℕ) → S ws → Reported s s' ws z
