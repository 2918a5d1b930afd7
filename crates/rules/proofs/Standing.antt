-- What stands ready for a rule: what it may read and build.
use mathlib.Core.Path.{◌≡◌, refl, sym, ◌∙◌}
use mathlib.Core.List.{List}
use Prim.Native.Nat.{ℕ, ◌+◌, ◌*◌, ◌≤◌, ◌<◌, ◌^◌}
use native.Mathlib.Omega.{arith}
use lib.ListN.{get_or}
use Rattle.definition.specs.Syntax.{TyVar, Ty, etvar, Expr, Ctx, Trees}
use Rattle.definition.specs.Rules.{ty_code}
use Rattle.layout.specs.Sizes.{CAP}
use Rattle.layout.specs.Places.{ExprAt}
use Rattle.layout.specs.Denotes.{Den, Run}
use Rattle.layout.specs.Room.{Room}
use Rattle.layout.specs.declared.Span.{Span}
use Rattle.layout.specs.declared.State.{State}
use Rattle.layout.proofs.Words.{keep_refl}
use Rattle.layout.proofs.Places.{expr_code_lem}
use Rattle.layout.proofs.Denotes.{den_small, base_frame}
use Rattle.types.specs.Reading.{HeldAs, HeldNamed}
use Rattle.expressions.specs.Forms.{Shaped}
use Rattle.contexts.specs.Build.{Space}
use Rattle.substitution.specs.Passing.{Passed}
use Rattle.judging.specs.declared.Rule.{Rule}
use Rattle.judging.proofs.Asking.{infer_asked, check_asked}
use Rattle.judging.proofs.Chain.{room_on, Sofar, built}
use Rattle.rules.specs.Built.{Built}
use Rattle.rules.specs.Opening.{ForallPre}
use Rattle.rules.specs.Taking.{InferPre, CheckPre}

pub named_code : {q w : List ℕ} {t r n : ℕ} → HeldAs q w t r n → 3 ≤ n → (n ≡ 5 → ⊥) → HeldNamed q w t r
named_code h l f = let e = h.code in record { held = h.held; low = omega arith; other = λ g. f (sym e ∙ g) }

module _ {q w : List ℕ} {s : State} {k : ℕ} (room : Room q w s k) where
  pub held_is : {r : ℕ} {T : Ty} → Den q w s.top r T → HeldAs q w s.top r (ty_code T)
  held_is {T = T} d = record {
    held = record { base = room.base; fits = omega (arith, room.fits, room.low); cap = room.cap; type = T; den = d };
    code = refl;
  }

  pub unknown_named : {r : ℕ} {x : TyVar} → Den q w s.top r (etvar x) → HeldNamed q w s.top r
  unfolding ty_code
  unknown_named d = named_code (held_is d) (omega arith) (λ e. omega arith)

  pub room_space : (g : Span) (m : ℕ) {Γ : Ctx} → Run q w s.top g.at g.n Γ → 4 * (g.n + m) ≤ k → Space w s g m
  room_space g m r h = record { below = r.below; room = omega (arith, room.fits); low = room.low; cap = room.cap }

  -- a reference is a word
  pub ref_small : {r : ℕ} {T : Ty} → Den q w s.top r T → r < 2 ^ 32
  ref_small d = omega (arith, den_small d, room.fits, room.low, room.cap)

  -- what was built leaves room
  pub built_room : {w₁ : List ℕ} {s₁ : State} {n : ℕ} (k₁ : ℕ) → Built w w₁ s s₁ n → n + k₁ ≤ k → s₁.fresh + 2 * s₁.left ≤ CAP → Room q w₁ s₁ k₁
  built_room k₁ b h f =
      let lo = b.low in
      room_on _ k₁ room b.keep b.up (omega arith) (omega (arith, b.built, b.less, room.fits)) f

  -- the parts of an expression may be asked
  room_shaped : {p n : ℕ} {e : Expr} → ExprAt q p e → get_or q p 0 ≡ n → Shaped q w p n
  room_shaped x h = let c = expr_code_lem x in record {
    base = base_frame (keep_refl _ 0 w) (omega (arith, room.fits, room.low)) room.base;
    e = _;
    at = x;
    code = record { inside = c.inside; within = c.within; is = h };
  }

module _ {q w : List ℕ} {s : State} {g : Span} {ex : ℕ} where
  pub infer_shaped : {k : ℕ} → InferPre q w s g ex k → Shaped q w ex k
  infer_shaped pre = room_shaped pre.rule.room (infer_asked ex pre.rule.asks).at pre.code

  pub check_shaped : {ty k : ℕ} {r : Rule} (pre : CheckPre q w s g ex ty r) → pre.k ≡ k → Shaped q w ex k
  check_shaped {ty} pre e = room_shaped pre.rule.room (check_asked ex ty pre.rule.asks).at (pre.code ∙ e)

-- a rule may open a Forall
pub forall_pre : {q w : List ℕ} {s : State} {g : Span} {r : ℕ} {T : Ty} {Γ : Ctx} → Room q w s (20 + 28 * g.n) → Run q w s.top g.at g.n Γ
    → Den q w s.top r T → ty_code T ≡ 6 → ForallPre q w s g r
forall_pre room run d e = record { room = room; Γ = _; run = run; held = rw e at (held_is room d) }

pub passed_built : {w w₁ : List ℕ} {s s₁ : State} {n : ℕ} → Passed w w₁ s s₁ n → Built w w₁ s s₁ 0
passed_built p = record { keep = p.keep; up = p.up; low = p.low; less = omega (arith, p.paid); built = omega (arith, p.built) }

pub built_on : {q w w₁ w₂ : List ℕ} {s s₁ s₂ : State} {n : ℕ} {ts : Trees} → Sofar q w w₁ s s₁ ts → Built w₁ w₂ s₁ s₂ n → Sofar q w w₂ s s₂ ts
built_on so b = built _ so b.keep b.up b.low b.less
