-- How a rule ends: what is kept of the context that came back.
use mathlib.Core.Path.{◌≡◌, refl, ◌∙◌}
use mathlib.Core.List.{List}
use Prim.Native.Nat.{ℕ, ◌+◌, ◌*◌, ◌≤◌}
use native.Mathlib.Nat.{le_refl}
use native.Mathlib.Omega.{arith}
use Rattle.std.specs.Prelude.{Ok}
use Rattle.definition.specs.Syntax.{Ty, Ctx}
use Rattle.definition.specs.Contexts.{Key, k_tvar, solved_and_right}
use Rattle.layout.specs.Names.{ty}
use Rattle.layout.specs.States.{raised}
use Rattle.layout.specs.Words.{Keep}
use Rattle.layout.specs.Denotes.{Den, Run}
use Rattle.layout.specs.declared.Span.{Span}
use Rattle.layout.specs.declared.State.{State}
use Rattle.layout.specs.declared.TyVar.{TyVar}
use Rattle.layout.proofs.Words.{keep_refl, keep_less, keep_trans}
use Rattle.layout.proofs.Denotes.{den_frame, run_frame}
use Rattle.types.specs.Making.{PutForall}
use Rattle.contexts.specs.Build.{KeptBoth}
use Rattle.contexts.specs.declared.Opened.{Opened}
use Rattle.rules.specs.Going.{Finished, TabsPre, TabsOut}

-- no word changed: some of the entries stay, as F says
pub words_stand : {s : State} {g h : Span} {r rule kids : ℕ} (q w : List ℕ) (F : Ctx → Ctx)
    → ((Γ : Ctx) → Run q w s.top g.at g.n Γ → Run q w s.top h.at h.n (F Γ))
    → Finished q w w s g r 0 F (λ (A : Ty). A) rule kids (Ok (record { st = s; g = h; ty = r; rule = rule; kids = kids; charge = 0 }))
words_stand q w F f = record {
  answer = _;
  is = refl;
  rule_is = refl;
  kids_is = refl;
  keep = keep_refl _ _ _;
  up = le_refl _;
  most = omega arith;
  low = refl;
  left = refl;
  fresh = refl;
  run = λ n. f _ n;
  den = λ d. d;
}

-- the solved entries of left, then right: from a state that is the same but for a record of `more` words
module _ {q w w₁ w₂ : List ℕ} (s s₁ : State) {g : Span} {k : Key} {o : Opened} (more : ℕ) (kp : Keep s.top (s.top + more) w w₁)
    (up : s₁.top ≡ s.top + more) (lo : s₁.low ≡ s.low) (le : s₁.left ≡ s.left) (fr : s₁.fresh ≡ s.fresh)
    (room : s.top + more + 4 * g.n ≤ s.low) (b : KeptBoth w₁ w₂ s₁ g k o) where
  pub both_kept : {r r' rule kids : ℕ} {G : Ty → Ty} → ((A : Ty) → Den q w s.top r A → Den q w₁ s₁.top r' (G A))
      → Finished q w w₂ s g r more (solved_and_right k) G rule kids (Ok (record { st = o.st; g = o.g; ty = r'; rule = rule; kids = kids; charge = 0 }))
  both_kept d =
      let p = b.grown.past in
      let t = p.top in
      let k₁ : Keep s.top s.low w w₁ = keep_less (le_refl _) (omega arith) kp in
      let k₂ : Keep s₁.top s₁.low w₁ w₂ = keep_less (le_refl _) (omega (arith, b.few)) b.grown.keep in
      record {
        answer = _;
        is = refl;
        rule_is = refl;
        kids_is = refl;
        keep = keep_trans k₁ (keep_less (omega arith) (omega arith) k₂);
        up = omega arith;
        most = omega (arith, b.few);
        low = p.low ∙ lo;
        left = p.left ∙ le;
        fresh = p.fresh ∙ fr;
        run = λ n. b.run (run_frame k₁ (omega arith) n);
        den = λ x. den_frame k₂ (omega arith) (d _ x);
      }

-- ## A Forall of the body type, past whose record the entries are kept

module _ {q w w₁ : List ℕ} {s p : State} {g : Span} {a : TyVar} {body t : ℕ} (pre : TabsPre q w s g body) (put : PutForall q w w₁ s.top a body t)
    (ep : p ≡ raised s 4) where
  pub tabs_kept : {w₂ : List ℕ} {o : Opened} → KeptBoth w₁ w₂ p g (k_tvar (ty a)) o
      → TabsOut q w w₂ s g (ty a) body (Ok (record { st = o.st; g = o.g; ty = t; rule = 13; kids = 1; charge = 0 }))
  tabs_kept k = record {
    finished = both_kept s (raised s 4) 4 put.keep refl refl refl refl (omega (arith, pre.room)) (rw ep at k) (λ A d. put.den A d);
  }
