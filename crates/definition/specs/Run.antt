-- A run and its count. "6 stops the run where it occurs."
use Rattle.std.specs.Prelude.{ℕ, suc, ◌+◌, ◌-◌, leb}
use Rattle.definition.specs.Syntax.{pick, TyVar, TypeError}

-- what a run comes to: a value, the budget left and the number of fresh names taken; a type error and the budget left; out of budget
pub data Out (A : Type 0) : Type 0 where
  done : A → ℕ → ℕ → Out A
  fail : TypeError → ℕ → Out A
  stop : Out A

-- from the budget left and the number of fresh names taken
abbrev pub M : Type 0 → Type 0
M A = ℕ → ℕ → Out A

unfoldable pub and_then : {A B : Type 0} → Out A → (A → M B) → Out B
and_then (done a l n) k = k a l n
and_then (fail e l) k = fail e l
and_then stop k = stop

infixl 20 ◌>>=◌
unfoldable pub ◌>>=◌ : {A B : Type 0} → M A → (A → M B) → M B
◌>>=◌ m k = λ l n. and_then (m l n) k

unfoldable pub give : {A : Type 0} → A → M A
give a l n = done a l n

unfoldable pub refuse : {A : Type 0} → TypeError → M A
refuse e l n = fail e l

unfoldable pub halt : {A : Type 0} → M A
halt l n = stop

-- | 6 Budget | the next charge would pass the budget | 0 |
unfoldable pub charge : ℕ → M (Unit {0})
charge c l n = pick (leb c l) (done tt (l - c) n) stop

-- "The k-th fresh name (from 0, in each call) is 1,000,000 + k."
unfoldable pub fresh : M TyVar
fresh l n = done (record { number = 1_000_000 + n }) l (suc n)

-- `unfolding run_computes` opens every definition above, and those they rest on
unfoldable pub run_computes : Unit {0}
unfolding pick and_then ◌>>=◌ give refuse halt charge fresh
run_computes = tt
