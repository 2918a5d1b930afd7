-- What the code's choices come to: an operator's rule, and a literal's; and the codes that it chooses by.
use mathlib.Core.Path.{◌≡◌, refl}
use mathlib.Core.Logic.{◌⊎◌, ⊎_elim}
use mathlib.Core.List.{List}
use Prim.Native.Nat.{ℕ, ◌≤◌, ◌<◌}
use native.Mathlib.Omega.{arith}
use borrow.Author.Tests.{le-leb, lt-leb}
use lib.ListN.{length}
use Rattle.std.specs.Prelude.{Option, Some, None}
use Rattle.definition.specs.Syntax
use Rattle.definition.specs.Syntax.{pick, int, bool, Expr, evar, app, abs, tapp, tabs, ann, lit_int, lit_bool, let_in, if_then_else, bin_op}
use Rattle.definition.specs.Rules.{when, expr_code, inf_both, inf_eq, inf_binop, ◌or_else◌}
use Rattle.layout.specs.Sizes.{INT, BOOL}
use Rattle.layout.specs.declared.Span.{Span}
use Rattle.layout.specs.declared.State.{State}
use Rattle.layout.proofs.Places.{expr_code_lem}
use Rattle.layout.proofs.Denotes.{int_den, bool_den}
use Rattle.judging.specs.Asking.{check_ask, RulePre}
use Rattle.judging.proofs.Asking.{check_asked}
use Rattle.judging.specs.declared.Rule.{Rule}
use Rattle.judging.specs.declared.Rule.TheVariants as rule
use Rattle.rules.specs.Taking.{OfLiteral, of_int, of_bool}
use Rattle.inference.specs.Rules.{Operates}

-- ## Codes

codes : (e : Expr) → (16 ≤ expr_code e) × (expr_code e ≤ 26)
unfolding expr_code
codes (evar p x) = (omega arith, omega arith)
codes (app p e e') = (omega arith, omega arith)
codes (abs p x A e) = (omega arith, omega arith)
codes (tapp p e A) = (omega arith, omega arith)
codes (tabs p a e) = (omega arith, omega arith)
codes (ann p e A) = (omega arith, omega arith)
codes (lit_int p l h) = (omega arith, omega arith)
codes (lit_bool p b) = (omega arith, omega arith)
codes (let_in p x e e') = (omega arith, omega arith)
codes (if_then_else p e e' e'') = (omega arith, omega arith)
codes (bin_op p o e e') = (omega arith, omega arith)

-- the code of what is checked can be read
pub check_within : {q w : List ℕ} {s : State} {g : Span} {ex ty : ℕ} → RulePre q w s g (check_ask ex ty) → ex < length q
check_within {ex = ex} {ty = ty} pre = (expr_code_lem (check_asked ex ty pre.asks).at).within

-- ## Literals

pub of_literal : {r : Rule} → (r ≡ rule.ChkLitInt) ⊎ (r ≡ rule.ChkLitBool) → OfLiteral r
of_literal = ⊎_elim (λ e. rw e of_int) (λ e. rw e of_bool)

-- ## Operators

same : {a x : ℕ} → ◌≡◌ {A = Option ℕ} (Some a) (Some x) → a ≡ x
same e = cc

module _ {o : ℕ} where
  pub is_arith : o ≤ 4 → Operates o (record { against = Some INT; gives = INT; rule = rule.InfArith })
  unfolding inf_binop inf_both when pick ◌or_else◌
  is_arith u = record { r = Syntax.InfArith; A = int; C = int; rule = refl; side = λ e b. rw (← same e) (int_den b); gives = int_den; is = λ i m judge Γ e e'. rw (le-leb o 4 u) refl }

  pub is_bool : 4 < o → o ≤ 6 → Operates o (record { against = Some BOOL; gives = BOOL; rule = rule.InfBool })
  unfolding inf_binop inf_both when pick ◌or_else◌
  is_bool l u = record { r = Syntax.InfBool; A = bool; C = bool; rule = refl; side = λ e b. rw (← same e) (bool_den b); gives = bool_den; is = λ i m judge Γ e e'. rw (lt-leb o 4 l, le-leb o 6 u) refl }

  pub is_eq : 6 < o → o ≤ 8 → Operates o (record { against = None; gives = BOOL; rule = rule.InfEq })
  unfolding inf_binop inf_eq when pick ◌or_else◌
  is_eq l u = record { r = Syntax.InfEq; A = int; C = bool; rule = refl; side = λ e b. absurd (cc); gives = bool_den; is = λ i m judge Γ e e'. let j : 4 < o = omega arith in rw (lt-leb o 4 j, lt-leb o 6 l, le-leb o 8 u) refl }

  pub is_cmp : (1 ≤ o → 8 < o) → Operates o (record { against = Some INT; gives = BOOL; rule = rule.InfCmp })
  unfolding inf_binop inf_both when pick ◌or_else◌
  is_cmp l = record { r = Syntax.InfCmp; A = int; C = bool; rule = refl; side = λ e b. rw (← same e) (int_den b); gives = bool_den; is = λ i m judge Γ e e'. let h : 4 < o = omega (arith, l i) in let j : 6 < o = omega (arith, l i) in rw (lt-leb o 4 h, lt-leb o 6 j, lt-leb o 8 (l i)) refl }
