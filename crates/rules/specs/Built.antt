-- What a rule builds before it asks a judgement.
use Rattle.std.specs.Prelude.{◌≡◌, List, ℕ, ◌+◌, ◌*◌, ◌≤◌}
use Rattle.layout.specs.Words.{Keep}
use Rattle.layout.specs.declared.State.{State}

-- from w and s to w' and s': n words were built at most, besides four for each unit that was paid
pub record Built (w w' : List ℕ) (s s' : State) (n : ℕ) : Type 0 where
  pub keep : Keep s.top s.low w w'
  pub up : s.top ≤ s'.top
  pub low : s'.low ≡ s.low
  pub less : s'.left ≤ s.left
  pub built : s'.top + 4 * s'.left ≤ s.top + 4 * s.left + n
