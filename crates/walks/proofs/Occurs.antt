-- The arms of `occurs_check`.
use mathlib.Core.Path.{◌≡◌, refl, sym, ap, ◌∙◌}
use mathlib.Core.List.{List}
use mathlib.Core.Bool.{Bool, true, false, not}
use Prim.Native.Nat.{ℕ, ◌≤◌, ◌<◌}
use lib.Dec.{eqb}
use Rattle.definition.specs.Syntax as syntax
use Rattle.definition.specs.Syntax.{Ty, forall}
use Rattle.definition.specs.Types.{same_name, occurs}
use Rattle.layout.specs.Names.{ty}
use Rattle.layout.specs.Denotes.{Den}
use Rattle.layout.specs.declared.TyVar.{TyVar}
use Rattle.types.specs.Reading.{Tagged, Named, LeftOf, RightOf, BodyOf}
use Rattle.types.proofs.Cases.{by_base, by_name, by_arrow, by_forall}
use Rattle.walks.specs.Walks.{Occurs}
use Rattle.walks.proofs.Names.{names}

is_other : {q w : List ℕ} {t r : ℕ} (a : TyVar) {b : TyVar} {m : Bool} → Named q w t r b → m ≡ not (eqb b.0 a.0) → (x : syntax.TyVar) (A : Ty)
    → Den q w t r (forall x A) → m ≡ not (same_name x (ty a))
is_other a {b} n other x A d = other ∙ ap not (names b a x (ty a) (n.of_forall x A d) refl)

module _ {q w : List ℕ} {t r k : ℕ} {a : TyVar} (c : Tagged q w t r k) where
  pub occurs_base : k < 3 → Occurs q w t a r false
  unfolding occurs
  occurs_base l = record { is = by_base (λ T. false ≡ occurs (ty a) T) c l (λ d. refl) (λ d. refl) }

  pub occurs_name : {b : TyVar} {z : Bool} → 3 ≤ k → k < 5 → Named q w t r b → z ≡ eqb b.0 a.0 → Occurs q w t a r z
  unfolding occurs
  occurs_name {b} {z} l m n e = record {
    is = by_name (λ T. z ≡ occurs (ty a) T) c l m
        (λ x d. e ∙ names b a x (ty a) (n.of_var x d) refl)
        (λ x d. e ∙ names b a x (ty a) (n.of_etvar x d) refl);
  }

  module _ (e : k ≡ 5) {l : ℕ} (left : LeftOf q w t r l) {m : Bool} (first : Occurs q w t a l m) where
    pub occurs_left : m ≡ true → Occurs q w t a r m
    unfolding occurs
    occurs_left f = record { is = by_arrow (λ T. m ≡ occurs (ty a) T) c e (λ A B d. f ∙ rw (sym (first.is A (left.is A B d).den) ∙ f) refl) }

    pub occurs_right : {b : ℕ} {z : Bool} → m ≡ false → RightOf q w t r b → Occurs q w t a b z → Occurs q w t a r z
    unfolding occurs
    occurs_right {z = z} f right second = record {
      is = by_arrow (λ T. z ≡ occurs (ty a) T) c e (λ A B d. rw (sym (first.is A (left.is A B d).den) ∙ f) (second.is B (right.is A B d).den));
    }

  -- m: the bound name is another one
  module _ (e : k ≡ 6) {b : TyVar} (n : Named q w t r b) {m : Bool} (other : m ≡ not (eqb b.0 a.0)) where
    pub occurs_bound : m ≡ false → Occurs q w t a r m
    unfolding occurs
    occurs_bound f = record {
      is = by_forall (λ T. m ≡ occurs (ty a) T) c e (λ x A d. f ∙ rw (sym (is_other a n other x A d) ∙ f) refl);
    }

    pub occurs_body : {l : ℕ} {z : Bool} → m ≡ true → BodyOf q w t r l → Occurs q w t a l z → Occurs q w t a r z
    unfolding occurs
    occurs_body {z = z} f body inner = record {
      is = by_forall (λ T. z ≡ occurs (ty a) T) c e (λ x A d. rw (sym (is_other a n other x A d) ∙ f) (inner.is A (body.is x A d).den));
    }
