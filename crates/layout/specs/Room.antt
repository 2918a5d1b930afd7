-- Work never runs out: 32 words stand ready for each unit of budget that is left.
use Rattle.std.specs.Prelude.{List, ℕ, ◌+◌, ◌*◌, ◌≤◌, length}
use Rattle.layout.specs.Sizes.{CAP}
use Rattle.layout.specs.Denotes.{Base}
use Rattle.layout.specs.declared.State.{State}

-- room for all that the budget allows, and k words more; fresh names stay words
pub record Room (q w : List ℕ) (s : State) (k : ℕ) : Type 0 where
  pub base : Base q w s.top
  pub fits : s.top + 32 * s.left + k ≤ s.low
  pub low : s.low ≤ length w
  pub cap : length w ≤ CAP
  pub names : s.fresh + 2 * s.left ≤ CAP
