-- What is asked, taken apart: a judgement that is asked as an inference is one, and so for the others.
use mathlib.Core.Path.{◌≡◌, refl}
use mathlib.Core.List.{List, [], ◌∷◌}
use Prim.Native.Nat.{ℕ, ◌-◌, ◌<◌, ◌^◌}
use native.Mathlib.Omega.{arith}
use Rattle.definition.specs.Syntax.{TyVar, Ty, etvar, Expr, Ctx, Side, on_l, on_r, Judgement, infer, check, infer_app, subtype, inst}
use Rattle.layout.specs.Sizes.{BASE}
use Rattle.layout.specs.Places.{ExprAt}
use Rattle.layout.specs.Denotes.{Den, Run}
use Rattle.layout.specs.declared.Span.{Span}
use Rattle.layout.proofs.Numbered.{nth}
use Rattle.judging.specs.declared.Ask.{Ask}
use Rattle.judging.specs.Asking.{Asks, as_infer, as_check, as_app, as_sub, as_inst_l, as_inst_r, infer_ask, check_ask, app_ask, sub_ask, inst_ask, Small}

-- ## Small enough to be written

pub small_infer : (e : ℕ) → e < BASE → Small (infer_ask e)
small_infer e h = record { kind = omega arith; ex = omega arith; left = omega arith; right = omega arith }

pub small_check : (e B : ℕ) → e < BASE → B < 2 ^ 32 → Small (check_ask e B)
small_check e B h k = record { kind = omega arith; ex = omega arith; left = omega arith; right = k }

pub small_app : (A e : ℕ) → A < 2 ^ 32 → e < BASE → Small (app_ask A e)
small_app A e h k = record { kind = omega arith; ex = omega arith; left = h; right = omega arith }

pub small_sub : {A B : ℕ} → A < 2 ^ 32 → B < 2 ^ 32 → Small (sub_ask A B)
small_sub h k = record { kind = omega arith; ex = omega arith; left = h; right = k }

pub small_inst : (s : Side) {a T : ℕ} → a < 2 ^ 32 → T < 2 ^ 32 → Small (inst_ask s a T)
small_inst on_l h k = record { kind = omega arith; ex = omega arith; left = h; right = k }
small_inst on_r h k = record { kind = omega arith; ex = omega arith; left = k; right = h }

-- ## Taken apart

pub record InferAsked (q w : List ℕ) (t : ℕ) (g : Span) (p : ℕ) (j : Judgement) : Type 0 where
  pub Γ : Ctx
  pub e : Expr
  pub is : j ≡ infer Γ e
  pub run : Run q w t g.at g.n Γ
  pub at : ExprAt q p e

-- of an expression and a type: check and infer_app
pub record TypedAsked (form : Ctx → Expr → Ty → Judgement) (q w : List ℕ) (t : ℕ) (g : Span) (p b : ℕ) (j : Judgement) : Type 0 where
  pub Γ : Ctx
  pub e : Expr
  pub T : Ty
  pub is : j ≡ form Γ e T
  pub run : Run q w t g.at g.n Γ
  pub at : ExprAt q p e
  pub den : Den q w t b T

pub record SubAsked (q w : List ℕ) (t : ℕ) (g : Span) (a b : ℕ) (j : Judgement) : Type 0 where
  pub Γ : Ctx
  pub A : Ty
  pub B : Ty
  pub is : j ≡ subtype Γ A B
  pub run : Run q w t g.at g.n Γ
  pub left : Den q w t a A
  pub right : Den q w t b B

pub record InstAsked (q w : List ℕ) (t : ℕ) (g : Span) (s : Side) (a b : ℕ) (j : Judgement) : Type 0 where
  pub Γ : Ctx
  pub x : TyVar
  pub T : Ty
  pub is : j ≡ inst s Γ x T
  pub run : Run q w t g.at g.n Γ
  pub unknown : Den q w t a (etvar x)
  pub den : Den q w t b T

-- what a judgement of kind k is
abbrev AskedAs : List ℕ → List ℕ → ℕ → Span → Ask → Judgement → ℕ → Type 0
AskedAs q w t g a j k =
    nth (InferAsked q w t g a.ex j ∷ TypedAsked check q w t g a.ex a.right j ∷ TypedAsked infer_app q w t g a.ex a.left j
    ∷ SubAsked q w t g a.left a.right j ∷ InstAsked q w t g on_l a.left a.right j ∷ InstAsked q w t g on_r a.right a.left j ∷ []) (k - 1)

asked : {q w : List ℕ} {t : ℕ} {g : Span} {a : Ask} {j : Judgement} → Asks q w t g a j → AskedAs q w t g a j a.kind
asked (as_infer {Γ = Γ} {e = e} k r x) = rw k (record { Γ = Γ; e = e; is = refl; run = r; at = x })
asked (as_check {Γ = Γ} {e = e} {B = B} k r x d) = rw k (record { Γ = Γ; e = e; T = B; is = refl; run = r; at = x; den = d })
asked (as_app {Γ = Γ} {e = e} {A = A} k r x d) = rw k (record { Γ = Γ; e = e; T = A; is = refl; run = r; at = x; den = d })
asked (as_sub {Γ = Γ} {A = A} {B = B} k z r d e) = rw k (record { Γ = Γ; A = A; B = B; is = refl; run = r; left = d; right = e })
asked (as_inst_l {Γ = Γ} {x = x} {T = T} k z r d e) = rw k (record { Γ = Γ; x = x; T = T; is = refl; run = r; unknown = d; den = e })
asked (as_inst_r {Γ = Γ} {x = x} {T = T} k z r d e) = rw k (record { Γ = Γ; x = x; T = T; is = refl; run = r; unknown = e; den = d })

module _ {q w : List ℕ} {t : ℕ} {g : Span} where
  pub infer_asked : (p : ℕ) {j : Judgement} → Asks q w t g (infer_ask p) j → InferAsked q w t g p j
  infer_asked p x = asked x

  pub check_asked : (p b : ℕ) {j : Judgement} → Asks q w t g (check_ask p b) j → TypedAsked check q w t g p b j
  check_asked p b x = asked x

  pub app_asked : (a p : ℕ) {j : Judgement} → Asks q w t g (app_ask a p) j → TypedAsked infer_app q w t g p a j
  app_asked a p x = asked x

  pub sub_asked : (a b : ℕ) {j : Judgement} → Asks q w t g (sub_ask a b) j → SubAsked q w t g a b j
  sub_asked a b x = asked x

  pub inst_asked : (s : Side) (a b : ℕ) {j : Judgement} → Asks q w t g (inst_ask s a b) j → InstAsked q w t g s a b j
  inst_asked on_l a b x = asked x
  inst_asked on_r a b x = asked x

-- an instantiation is asked from its parts
pub asks_inst : {q w : List ℕ} {t : ℕ} {g : Span} (s : Side) {a b : ℕ} {Γ : Ctx} {x : TyVar} {T : Ty} → Run q w t g.at g.n Γ → Den q w t a (etvar x)
    → Den q w t b T → Asks q w t g (inst_ask s a b) (inst s Γ x T)
asks_inst on_l r d e = as_inst_l refl refl r d e
asks_inst on_r r d e = as_inst_r refl refl r e d
