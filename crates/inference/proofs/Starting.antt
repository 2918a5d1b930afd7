-- How the rules of infer, check and infer_app start: what is to be done.
use mathlib.Core.Path.{◌≡◌, refl}
use mathlib.Core.List.{List}
use Prim.Native.Nat.{ℕ, ◌+◌, ◌*◌}
use Rattle.definition.specs.Syntax.{Ty, Expr, Ctx, Judgement, infer, check, infer_app, leaf}
use Rattle.definition.specs.Run.{Out, M}
use Rattle.definition.specs.Rules.{Fired, infer_rule, check_rule, infer_app_rule, rule, judge}
use Rattle.layout.specs.declared.Span.{Span}
use Rattle.layout.specs.declared.State.{State}
use Rattle.judging.specs.declared.Ask.{Ask}
use Rattle.judging.specs.declared.Here.{Here}
use Rattle.judging.specs.Asking.{here, RulePre}
use Rattle.rules.proofs.Choices.{infers, checks, applies}
use Rattle.rules.proofs.Ways.{Way, start}

-- what a rule comes to that starts in s
abbrev pub outcome : Here → State → Judgement → Out Fired
outcome m s j = rule (here m) (judge (here m)) j s.left s.fresh

module _ (m : Here) {q w : List ℕ} {s : State} {g : Span} {a : Ask} (pre : RulePre q w s g a) {j : Judgement} {Γ : Ctx} {e : Expr} where
  pub begin_infer : {e' : Expr} {K : M Fired} → j ≡ infer Γ e → e ≡ e' → infer_rule (here m) (judge (here m)) Γ e' ≡ K
      → Way q w w s s leaf (20 + 28 * g.n) (outcome m s j) K
  begin_infer p f i = start pre.room (infers (here m) _ _ p f (rw i refl))

  pub begin_check : {e' : Expr} {B B' : Ty} {K : M Fired} → j ≡ check Γ e B → e ≡ e' → B ≡ B' → check_rule (here m) (judge (here m)) Γ e' B' ≡ K
      → Way q w w s s leaf (20 + 28 * g.n) (outcome m s j) K
  begin_check p f h i = start pre.room (checks (here m) _ _ p f h (rw i refl))

  pub begin_app : {A A' : Ty} {K : M Fired} → j ≡ infer_app Γ e A → A ≡ A' → infer_app_rule (here m) (judge (here m)) Γ e A' ≡ K
      → Way q w w s s leaf (20 + 28 * g.n) (outcome m s j) K
  begin_app p h i = start pre.room (applies (here m) _ _ p h (rw i refl))
