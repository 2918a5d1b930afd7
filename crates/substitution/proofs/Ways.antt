-- Substitution and application as calls that make a type (Arms): what is their own.
use mathlib.Core.Path.{◌≡◌, refl, sym, ap}
use mathlib.Core.Logic.{◌⊎◌, ⊎_elim}
use mathlib.Core.Bool.{Bool, true, false}
use mathlib.Core.List.{List}
use Prim.Native.Nat.{ℕ, ◌<◌}
use native.Mathlib.Omega.{arith}
use lib.Dec.{eqb}
use Rattle.definition.specs.Syntax as syntax
use Rattle.definition.specs.Syntax.{pick, Ty, var, etvar, arrow, forall, Ctx}
use Rattle.definition.specs.Contexts.{k_setvar}
use Rattle.definition.specs.Run.{give}
use Rattle.definition.specs.Types.{same_name, subst, apply_step, apply}
use Rattle.definition.specs.Rules.{ty_code}
use Rattle.layout.specs.Names.{ty}
use Rattle.layout.specs.States.{Charges}
use Rattle.layout.specs.Denotes.{Den, Run}
use Rattle.layout.specs.declared.TyVar.{TyVar}
use Rattle.layout.specs.declared.Span.{Span}
use Rattle.layout.specs.declared.State.{State}
use Rattle.layout.specs.declared.Made.{Made}
use Rattle.layout.specs.declared.Spent.{Spent}
use Rattle.layout.proofs.Denotes.{den_frame, run_frame}
use Rattle.types.specs.Reading.{form_number, FormOf, Named}
use Rattle.types.specs.declared.Form.{Form}
use Rattle.types.proofs.Codes.{base_form, name_form}
use Rattle.types.proofs.Cases.{by_name, by_forall}
use Rattle.contexts.specs.Search.{Looked, absent, holds}
use Rattle.std.specs.Prelude.{Some, None, Result, Ok}
use Rattle.substitution.specs.Passing.{Chosen}
use Rattle.substitution.specs.Calls.{SubstPre, Substed, ApplyPre, Applied}
use Rattle.substitution.proofs.Equations.{PaysFirst, subst_step, subst_eq, subst_plain, subst_shadowed, subst_forall, on_forall, apply_paid, apply_plain, apply_unsolved, apply_solved, apply_arrow}
use Rattle.substitution.proofs.Arms.{Askable, Does, Descent, PaidCall, begin, AtOnce, GoesOn}

-- ## Substitution

-- the reference b denotes B
abbrev pub By : List ℕ → ℕ → Ty → List ℕ → ℕ → Type 0
By q b B w t = Den q w t b B

module _ {q w : List ℕ} {s : State} {b r : ℕ} where
  pub subst_asks : SubstPre q w s b r → Askable (By q b) q w s r
  subst_asks h = record { spare = h.spare; room = h.room; x = h.new; given = h.by; type = h.type; den = h.den }

  pub subst_pre : Askable (By q b) q w s r → SubstPre q w s b r
  subst_pre h = record { spare = h.spare; room = h.room; new = h.x; by = h.given; type = h.type; den = h.den }

  module _ {w' : List ℕ} {a : TyVar} {z : Result Made Spent} where
    pub subst_does : Substed q w w' s a b r z → Does (By q b) (subst (ty a)) q w w' s r z
    subst_does h = record { makes = h.makes }

    pub substed : Does (By q b) (subst (ty a)) q w w' s r z → Substed q w w' s a b r z
    substed h = record { makes = h.makes }

pub subst_way : (q : List ℕ) (a : TyVar) (b : ℕ) → Descent (By q b) (subst (ty a))
subst_way q a b = record {
  stays = λ B k l d. den_frame k l d;
  rest = subst_step (ty a);
  paid = subst_eq (ty a);
  arrows = λ B A C. subst_eq (ty a) B (arrow A C);
}

-- a call that has begun
abbrev pub subst_call : {q w : List ℕ} {s p : State} {b r n : ℕ} (a : TyVar) (f : Form) → SubstPre q w s b r → s.left ≡ n → Charges s 1 (Ok p)
    → FormOf q w s.top r f → PaidCall Ty n
subst_call {q} {b = b} a f h = begin f (subst_way q a b) (subst_asks h)

-- the one or the other
den_pick : {q w : List ℕ} {t b r : ℕ} {B T : Ty} (x : Bool) → Den q w t b B → Den q w t r T → Den q w t (pick x b r) (pick x B T)
unfolding pick
den_pick true e d = e
den_pick false e d = d

module _ {q w : List ℕ} {t r : ℕ} {f : Form} (a : TyVar) (c : FormOf q w t r f) where
  -- Int and Bool stay
  pub plain_substed : (f ≡ Form.Int) ⊎ (f ≡ Form.Bool) → (B T : Ty) → Den q w t r T → AtOnce q w t r (subst (ty a) B T)
  plain_substed h B T d = record { type = T; is = subst_plain (ty a) B T (omega (arith, c.is T d, base_form h)); den = d }

  -- Var and ETVar alike: what b denotes for the name a
  pub name_substed : {b u : ℕ} → (f ≡ Form.Var) ⊎ (f ≡ Form.ETVar) → Chosen q w t a b r u → (B : Ty) → Den q w t b B → (T : Ty)
      → Den q w t r T → AtOnce q w t u (subst (ty a) B T)
  name_substed {b} {u} e x B g =
      by_name (λ T. AtOnce q w t u (subst (ty a) B T)) c (name_form e).0 (name_form e).1
      (λ i d. go (var i) i (x.named.of_var i d) d (subst_eq (ty a) B (var i)))
      (λ i d. go (etvar i) i (x.named.of_etvar i d) d (subst_eq (ty a) B (etvar i)))
    where
      go : (T : Ty) (i : syntax.TyVar) → ty x.name ≡ i → Den q w t r T → PaysFirst (subst (ty a) B T) (give (pick (same_name i (ty a)) B T))
          → AtOnce q w t u (subst (ty a) B T)
      go T i e d p = record { type = pick (same_name i (ty a)) B T; is = p; den = rw (x.is, e) (den_pick (same_name i (ty a)) g d) }

  -- a Forall that shadows the name stays
  pub shadowed_substed : {n : TyVar} → f ≡ Form.Forall → Named q w t r n → true ≡ eqb n.0 a.0 → (B T : Ty) → Den q w t r T → AtOnce q w t r (subst (ty a) B T)
  unfolding same_name
  shadowed_substed y x e B =
      by_forall (λ T. AtOnce q w t r (subst (ty a) B T)) c (ap form_number y)
      (λ i A d. record { type = forall i A; is = subst_shadowed (ty a) B i A (rw (← x.of_forall i A d) (sym e)); den = d })

-- any other is taken apart
pub forall_substed : (n a : TyVar) → false ≡ eqb n.0 a.0 → (B A : Ty) → PaysFirst (subst (ty a) B (forall (ty n) A)) (on_forall (subst (ty a) B) (ty n) A)
unfolding same_name
forall_substed n a h B A = subst_forall (ty a) B (ty n) A (sym h)

-- ## Application

-- the entries g are the context Γ
abbrev pub InRun : List ℕ → Span → Ctx → List ℕ → ℕ → Type 0
InRun q g Γ w t = Run q w t g.at g.n Γ

module _ {q w : List ℕ} {s : State} {g : Span} {r : ℕ} where
  pub apply_asks : ApplyPre q w s g r → Askable (InRun q g) q w s r
  apply_asks h = record { spare = h.spare; room = h.room; x = h.ctx; given = h.run; type = h.type; den = h.den }

  pub apply_pre : Askable (InRun q g) q w s r → ApplyPre q w s g r
  apply_pre h = record { spare = h.spare; room = h.room; ctx = h.x; run = h.given; type = h.type; den = h.den }

  module _ {w' : List ℕ} {z : Result Made Spent} where
    pub apply_does : Applied q w w' s g r z → Does (InRun q g) apply q w w' s r z
    apply_does h = record { makes = h.makes }

    pub applied : Does (InRun q g) apply q w w' s r z → Applied q w w' s g r z
    applied h = record { makes = h.makes }

pub apply_way : (q : List ℕ) (g : Span) → Descent (InRun q g) apply
apply_way q g = record {
  stays = λ Γ k l u. run_frame k l u;
  rest = λ Γ. apply_step Γ (apply Γ);
  paid = apply_paid;
  arrows = apply_arrow;
}

-- a call that has begun
abbrev pub apply_call : {q w : List ℕ} {s p : State} {r n : ℕ} (g : Span) (f : Form) → ApplyPre q w s g r → s.left ≡ n → Charges s 1 (Ok p)
    → FormOf q w s.top r f → PaidCall Ctx n
apply_call {q} g f h = begin f (apply_way q g) (apply_asks h)

-- a form before ETVar
low_form : {f : Form} → (f ≡ Form.Int) ⊎ ((f ≡ Form.Bool) ⊎ (f ≡ Form.Var)) → form_number f < 4
low_form = ⊎_elim (λ e. omega (arith, ap form_number e)) (⊎_elim (λ e. omega (arith, ap form_number e)) (λ e. omega (arith, ap form_number e)))

module _ {q w : List ℕ} {t r : ℕ} {f : Form} (c : FormOf q w t r f) where
  -- Int, Bool and Var stay
  pub plain_applied : (f ≡ Form.Int) ⊎ ((f ≡ Form.Bool) ⊎ (f ≡ Form.Var)) → (Γ : Ctx) (T : Ty) → Den q w t r T → AtOnce q w t r (apply Γ T)
  plain_applied h Γ T d =
      record { type = T; is = apply_plain Γ T (omega (arith, c.is T d, low_form h)); den = d }

  -- the form ETVar and the name a: ETVar a
  by_unknown : {a : TyVar} (P : Ty → Type 0) → f ≡ Form.ETVar → Named q w t r a → (Den q w t r (etvar (ty a)) → P (etvar (ty a)))
      → (T : Ty) → Den q w t r T → P T
  unfolding ty_code
  by_unknown P y n h =
      let four = ap form_number y in
      by_name P c (omega arith) (omega arith) (λ b d. absurd (omega (arith, c.is (var b) d)))
      (λ b d. let e = n.of_etvar b d in rw e at (h (rw e d)))

  module _ {g : Span} {a : TyVar} (y : f ≡ Form.ETVar) (n : Named q w t r a) (Γ : Ctx) (run : Run q w t g.at g.n Γ) where
    pub unsolved_applied : Looked w g (k_setvar (ty a)) None → (T : Ty) → Den q w t r T → AtOnce q w t r (apply Γ T)
    unsolved_applied (absent s) =
        by_unknown (λ T. AtOnce q w t r (apply Γ T)) y n
        (λ d. record { type = etvar (ty a); is = apply_unsolved Γ (ty a) (s.missing refl run).find_is; den = d })

    pub solved_applied : {u : ℕ} → Looked w g (k_setvar (ty a)) (Some u) → (T : Ty) → Den q w t r T → GoesOn q w t u (apply Γ) T
    solved_applied {u} (holds l s h) =
        let v = s.found l run in
        by_unknown (λ T. GoesOn q w t u (apply Γ) T) y n
        (λ d. record { type = v.ty; is = apply_solved Γ (ty a) v.ty v.find_is; den = v.den })
