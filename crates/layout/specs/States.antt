-- What is done to a run's state: units are paid, a fresh name is taken, words are built at top or reserved below low.
use Rattle.std.specs.Prelude.{◌≡◌, ℕ, suc, ◌+◌, ◌-◌, ◌≤◌, ◌<◌, Result, Ok, Err}
use Rattle.definition.specs.Syntax as syntax
use Rattle.layout.specs.Sizes.{FLOOR}
use Rattle.layout.specs.Names.{ty}
use Rattle.layout.specs.declared.State.{State}
use Rattle.layout.specs.declared.Drawn.{Drawn}
use Rattle.layout.specs.declared.Spent.{Spent}

-- the k-th fresh name
abbrev pub fresh_name : ℕ → syntax.TyVar
fresh_name k = record { number = 1_000_000 + k }

-- a run starts
abbrev pub started : ℕ → ℕ → State
started low budget = record { top = FLOOR; low = low; left = budget; fresh = 0 }

abbrev pub paid : State → ℕ → State
paid s c = record { top = s.top; low = s.low; left = s.left - c; fresh = s.fresh }

abbrev pub named : State → State
named s = record { top = s.top; low = s.low; left = s.left; fresh = suc s.fresh }

abbrev pub raised : State → ℕ → State
raised s n = record { top = s.top + n; low = s.low; left = s.left; fresh = s.fresh }

abbrev pub lowered : State → ℕ → State
lowered s n = record { top = s.top; low = s.low - n; left = s.left; fresh = s.fresh }

pub data Charges (s : State) (c : ℕ) : Result State Spent → Type 0 where
  on : c ≤ s.left → Charges s c (Ok (paid s c))
  unpaid : {x : Spent} → s.left < c → Charges s c (Err x)

pub record Draws (s : State) (d : Drawn) : Type 0 where
  pub st : d.st ≡ named s
  pub name : ty d.name ≡ fresh_name s.fresh
