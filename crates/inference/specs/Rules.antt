-- Operators, and subtyping of types with the context applied.
use Rattle.std.specs.Prelude.{◌≡◌, Bool, true, false, List, ℕ, ◌≤◌, Option, Some, None}
use Rattle.definition.specs.Syntax.{pick, Ty, Expr, Ctx, infer, check, subtype, Rule, leaf, ◌&◌}
use Rattle.definition.specs.Run.{M, ◌>>=◌, give}
use Rattle.definition.specs.Rules as rules
use Rattle.definition.specs.Rules.{Fired, Result, Judge, inf_binop, judge}
use Rattle.layout.specs.Denotes.{Base, Den, Run}
use Rattle.layout.specs.declared.Span.{Span}
use Rattle.layout.specs.declared.State.{State}
use Rattle.judging.specs.declared.Here.{Here}
use Rattle.judging.specs.Names.{rule_of}
use Rattle.judging.specs.Asking.{here}
use Rattle.judging.specs.Ending.{RunsJ, Step}
use Rattle.rules.specs.Going.{apply_both}
use Rattle.inference.specs.declared.Sides.{Sides}

-- InfEq infers its left side (b), the other operators check it against A; the right side is checked against the same type
abbrev pub inf_sides : Judge → Bool → Rule → Ty → Ty → Ctx → Expr → Expr → M Fired
inf_sides judge b r A C Γ e e' = judge (pick b (infer Γ e) (check Γ e A)) >>= λ x. judge (check x.1 e' (pick b x.0 A))
    >>= λ y. give (r, C, y.1, x.2 & y.2 & leaf)

-- an operator's left side is inferred where there is no type to check it against
abbrev pub infers : Option ℕ → Bool
infers None = true
infers (Some x) = false

-- what the rule for the operator k asks
pub record Operates (k : ℕ) (o : Sides) : Type 0 where
  pub r : Rule
  pub A : Ty
  pub C : Ty
  pub rule : rule_of o.rule ≡ r
  pub side : {x : ℕ} → o.against ≡ Some x → {q w : List ℕ} {t : ℕ} → Base q w t → Den q w t x A
  pub gives : {q w : List ℕ} {t : ℕ} → Base q w t → Den q w t o.gives C
  pub is : 1 ≤ k → (h : rules.Here) (judge : Judge) (Γ : Ctx) (e e' : Expr) → inf_binop h judge Γ k e e' ≡ inf_sides judge (infers o.against) r A C Γ e e'

-- the context is applied to both types, where b says so, and then the first is below the second
abbrev pub relate : Here → Bool → Ctx → Ty → Ty → M Result
relate h b Γ A B = apply_both b Γ A B >>= λ T. judge (here h) (subtype Γ T.0 T.1)

pub record Related (h : Here) (b : Bool) (q w w' : List ℕ) (s : State) (g : Span) (x y : ℕ) (z : Step) : Type 0 where
  pub run : (Γ : Ctx) (A B : Ty) → Run q w s.top g.at g.n Γ → Den q w s.top x A → Den q w s.top y B
      → RunsJ q w w' s z (relate h b Γ A B s.left s.fresh)
