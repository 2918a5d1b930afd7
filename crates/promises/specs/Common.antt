-- What two calls of exported functions have in common: everything, for the same question; the reply, at two budgets; all but paired names, for
-- questions alike.
use Rattle.std.specs.Prelude.{◌≡◌, List, ◌++◌, ℕ, ◌*◌, ◌<◌, length, get_or, drop, eqb}
use Rattle.definition.specs.Syntax.{pick}
use Rattle.definition.specs.Reply.{Reply}
use Rattle.definition.specs.Host.{bytes_of, numbers}
use Rattle.alike.specs.Alike.{Pairing, AlikeReplies}

-- ---- The same: what is returned, where the four numbers went, the report slice; and the work slice

pub record SameReplies (r r' : ℕ) (ns ns' s s' : List ℕ) : Type 0 where
  pub returns : r ≡ r'
  pub four : ns ≡ ns'
  pub report : s ≡ s'

pub record SameChecks (r r' : ℕ) (ns ns' s s' w w' : List ℕ) : Type 0 where
  pub reply : SameReplies r r' ns ns' s s'
  pub work : w ≡ w'

pub record SameAnswers (r r' : ℕ) (s s' : List ℕ) : Type 0 where
  pub returns : r ≡ r'
  pub reply : s ≡ s'

-- one reply by both functions: sporeflask_answer returned r and left the reply s as s', sporeflask_check returned r' and left the four numbers ns
-- and the report slice t as t'. Both wrote one report, none on 7, behind the four numbers or alone; what stood past it stays.
pub record SameTold (r r' : ℕ) (ns s s' t t' : List ℕ) : Type 0 where
  pub returns : r ≡ r'
  pub report : List ℕ
  pub written : length report ≡ pick (eqb r 7) 0 (get_or ns 2 0)
  pub bytes : s' ≡ bytes_of (ns ++ report) ++ drop (4 * length (ns ++ report)) s
  pub words : t' ≡ report ++ drop (length report) t

-- ---- Alike, of the replies R and R' that the two questions get: both are handed over, and words that are the same stand behind them

pub record AlikeChecks (P : Pairing) (R R' : Reply) (r r' : ℕ) (ns ns' s s' w w' : List ℕ) : Type 0 where
  pub alike : AlikeReplies P R R'
  pub returns : (r ≡ R.code) × (r' ≡ R'.code)
  pub four : (ns ≡ numbers R) × (ns' ≡ numbers R')
  pub rest : List ℕ
  pub report : (s ≡ R.report ++ rest) × (s' ≡ R'.report ++ rest)
  pub work : w ≡ w'

-- the telephone host's: under 16 bytes nothing is written; else the words of a reply as bytes, then bytes that are the same
pub data AlikeAnswers (P : Pairing) (R R' : Reply) : ℕ → ℕ → List ℕ → List ℕ → Type 0 where
  short : {s : List ℕ} → length s < 16 → AlikeAnswers P R R' 8 8 s s
  told : AlikeReplies P R R' → (rest : List ℕ)
      → AlikeAnswers P R R' R.code R'.code (bytes_of (numbers R ++ R.report) ++ rest) (bytes_of (numbers R' ++ R'.report) ++ rest)
