-- Which rule fits, by the type's form, over the side.
use mathlib.Core.Path.{◌≡◌, ap}
use mathlib.Core.Logic.{◌⊎◌, ⊎_elim}
use mathlib.Core.List.{List}
use Prim.Native.Nat.{ℕ, ◌<◌}
use native.Mathlib.Omega.{arith}
use Rattle.definition.specs.Syntax.{etvar, Side}
use Rattle.definition.specs.Rules.{ty_code}
use Rattle.layout.specs.declared.Span.{Span}
use Rattle.layout.specs.declared.State.{State}
use Rattle.types.specs.Reading.{form_number, FormOf}
use Rattle.types.specs.declared.Form.{Form}
use Rattle.judging.specs.Asking.{inst_ask, RulePre}
use Rattle.instantiation.specs.Sides.{SolvePre}

no_unknown : {f : Form} → (f ≡ Form.Int) ⊎ ((f ≡ Form.Bool) ⊎ (f ≡ Form.Var)) → form_number f < 4
no_unknown = ⊎_elim (λ e. omega (arith, ap form_number e)) (⊎_elim (λ e. omega (arith, ap form_number e)) (λ e. omega (arith, ap form_number e)))

pub choose_solve : {sd : Side} {q w : List ℕ} {s : State} {g : Span} {a t : ℕ} {f : Form} → RulePre q w s g (inst_ask sd a t) → FormOf q w s.top t f
    → (f ≡ Form.Int) ⊎ ((f ≡ Form.Bool) ⊎ (f ≡ Form.Var)) → SolvePre sd q w s g a t
unfolding ty_code
choose_solve pre c e = record {
  pre = pre;
  plain = λ T d. omega (arith, c.is T d, no_unknown e);
  late = record { is = λ Γ x y run d u. absurd (omega (arith, c.is (etvar y) u, no_unknown e)) };
}
