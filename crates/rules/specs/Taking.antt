-- What a rule of infer, check or infer_app may rely on: what its dispatcher's match established.
use Rattle.std.specs.Prelude.{◌≡◌, List, ℕ, get_or}
use Rattle.layout.specs.declared.Span.{Span}
use Rattle.layout.specs.declared.State.{State}
use Rattle.types.specs.Reading.{Tagged}
use Rattle.judging.specs.declared.Rule.{Rule}
use Rattle.judging.specs.declared.Rule.TheVariants as rule
use Rattle.judging.specs.Asking.{infer_ask, check_ask, app_ask, RulePre}

-- an expression of code k is inferred
pub record InferPre (q w : List ℕ) (s : State) (g : Span) (ex k : ℕ) : Type 0 where
  pub rule : RulePre q w s g (infer_ask ex)
  pub code : get_or q ex 0 ≡ k

-- the rule r that checks an expression of code k against a type of code c: the order of the arms is the priority
pub data Choice (k c : ℕ) (r : Rule) : Type 0 where
  lit_int_lem : r ≡ rule.ChkLitInt → k ≡ 22 → c ≡ 1 → Choice k c r
  lit_bool_lem : r ≡ rule.ChkLitBool → k ≡ 23 → c ≡ 2 → Choice k c r
  lam : r ≡ rule.ChkLam → k ≡ 18 → c ≡ 5 → Choice k c r
  all : r ≡ rule.ChkAll → c ≡ 6 → Choice k c r
  sub : r ≡ rule.ChkSub → (k ≡ 22 → c ≡ 1 → ⊥) → (k ≡ 23 → c ≡ 2 → ⊥) → (k ≡ 18 → c ≡ 5 → ⊥) → (c ≡ 6 → ⊥) → Choice k c r

-- one of the two that check a literal
pub data OfLiteral : Rule → Type 0 where
  of_int : OfLiteral rule.ChkLitInt
  of_bool : OfLiteral rule.ChkLitBool

-- the rule r checks
pub record CheckPre (q w : List ℕ) (s : State) (g : Span) (ex ty : ℕ) (r : Rule) : Type 0 where
  pub rule : RulePre q w s g (check_ask ex ty)
  pub k : ℕ
  pub c : ℕ
  pub code : get_or q ex 0 ≡ k
  pub tag : Tagged q w s.top ty c
  pub choice : Choice k c r

-- a function's type of code k is applied
pub record AppPre (q w : List ℕ) (s : State) (g : Span) (ty ex k : ℕ) : Type 0 where
  pub rule : RulePre q w s g (app_ask ty ex)
  pub tag : Tagged q w s.top ty k

-- it is neither an Arrow nor an ETVar
pub record RefusePre (q w : List ℕ) (s : State) (g : Span) (ty ex : ℕ) : Type 0 where
  pub k : ℕ
  pub app : AppPre q w s g ty ex k
  pub no_arrow : k ≡ 5 → ⊥
  pub no_etvar : k ≡ 4 → ⊥
