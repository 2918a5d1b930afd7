-- The steps of writing a type.
use mathlib.Core.Path.{◌≡◌, refl, sym, ◌∙◌, ap}
use mathlib.Core.Logic.{◌⊎◌}
use mathlib.Core.List.{List, [], ◌∷◌, ◌++◌, append-nil}
use Prim.Native.Nat.{ℕ, ◌+◌, ◌-◌, ◌*◌, ◌≤◌, ◌<◌, ◌^◌}
use native.Mathlib.Omega.{arith}
use lib.ListN.{length, get_or, set, length-set}
use lib.Seq.{get_or-set_same, get_or-set_other, sets}
use Rattle.definition.specs.Syntax as syntax
use Rattle.definition.specs.Syntax.{Ty, int, bool, var, etvar, arrow, forall, ty_words}
use Rattle.definition.specs.Rules.{ty_code}
use Rattle.layout.specs.Names.{ty}
use Rattle.layout.specs.Places.{size}
use Rattle.layout.specs.Words.{Keep}
use Rattle.layout.specs.Denotes.{Den}
use Rattle.layout.specs.declared.TyVar.{TyVar}
use Rattle.layout.proofs.Words.{keep_refl, keep_trans, keep_set}
use Rattle.layout.proofs.Places.{size_some}
use Rattle.layout.proofs.Denotes.{den_small}
use Rattle.types.specs.Reading.{Held, Tagged, form_number, FormOf, Named, LeftOf, RightOf, BodyOf}
use Rattle.types.specs.declared.Form.{Form}
use Rattle.types.proofs.Cases.{by_base, by_name, by_arrow, by_forall}
use Rattle.types.proofs.Codes.{base_form, name_form}
use Rattle.writing.specs.Types.{Waiting, no_more, more, Stepped, Steps}
use Rattle.writing.proofs.Placing.{sets_cons}

-- ## What a step relies on

pub waiting_held : {q w : List ℕ} {t : ℕ} {s : List ℕ} {p low : ℕ} → Waiting q w t s p low → Held q w t (get_or s low 0)
waiting_held h = record { base = h.ground.base; fits = h.ground.fits; cap = h.ground.cap; type = h.type; den = h.den }

pub held_small : {q w : List ℕ} {t r : ℕ} → Held q w t r → r < 2 ^ 32
held_small h = omega (arith, den_small h.den, h.fits, h.cap)

-- a type has half as many words as its code at least
code_size : (T : Ty) → ty_code T ≤ 2 * size T
unfolding ty_code
code_size int = omega arith
code_size bool = omega arith
code_size (var a) = omega arith
code_size (etvar a) = omega arith
code_size (arrow A B) = omega (arith, size_some A, size_some B)
code_size (forall a A) = omega (arith, size_some A)

-- what the form tells that was read
pub record Seen (p low : ℕ) (f : Form) : Type 0 where
  pub name : (f ≡ Form.Var) ⊎ (f ≡ Form.ETVar) → p + 2 ≤ low + 1
  pub arrow : f ≡ Form.Arrow → p + 3 ≤ low + 1
  pub forall : f ≡ Form.Forall → p + 3 ≤ low + 1

pub seen : {q w : List ℕ} {t : ℕ} {s : List ℕ} {p low : ℕ} {f : Form} → Waiting q w t s p low → FormOf q w t (get_or s low 0) f
    → Seen p low f
seen {f = f} h c =
    let e = c.is h.type h.den in
    let n = code_size h.type in
    record {
      name = λ g. omega (arith, n, h.room, (name_form g).0);
      arrow = λ g. omega (arith, n, h.room, ap form_number g);
      forall = λ g. omega (arith, n, h.room, ap form_number g);
    }

-- ## The steps

-- a code and a name are put
name_put : (s : List ℕ) (p k n : ℕ) {s₁ s₂ : List ℕ} → s₁ ≡ set s p k → s₂ ≡ set s₁ (p + 1) n → s₂ ≡ sets s p (k ∷ n ∷ [])
name_put s p k n e f = sets_cons s p k (p + 1) (n ∷ []) e refl f

named_words : {k : ℕ} {a : TyVar} {b : syntax.TyVar} (n : ℕ) (vs : List ℕ) → k ≡ n → ty a ≡ b → n ∷ b.number ∷ vs ≡ k ∷ a.0 ∷ vs
named_words n vs e f = rw (e, ← f)

-- Int and Bool are their code
pub base_words : {q w : List ℕ} {t r k : ℕ} → Tagged q w t r k → k < 3 → (T : Ty) → Den q w t r T → ty_words T ≡ k ∷ []
unfolding ty_words ty_code
base_words {k = k} c l =
    by_base (λ T. ty_words T ≡ k ∷ []) c l (λ d. ap (λ (n : ℕ). n ∷ []) (sym (c.is int d))) (λ d. ap (λ (n : ℕ). n ∷ []) (sym (c.is bool d)))

-- the word of a form's number
pub coded : {q w : List ℕ} {t r k : ℕ} (f : Form) → FormOf q w t r f → k ≡ form_number f → Tagged q w t r k
coded f form code = record { is = λ T d. code ∙ form.is T d }

-- all words are put
step_whole : {q w : List ℕ} {t : ℕ} {s s' : List ℕ} {p low : ℕ} {T : Ty} (ws : List ℕ) → 1 ≤ length ws → ty_words T ≡ ws → s' ≡ sets s p ws
    → Stepped q w t s s' p low T (record { at = p + length ws; low = low + 1 })
step_whole {s = s} {p = p} ws l e f = record {
  head = ws;
  tail = [];
  is = e ∙ sym (append-nil ws);
  some = l;
  at_is = refl;
  keep = rw f (keep_refl _ _ (sets s p ws));
  waits = no_more refl;
}

module _ {q w : List ℕ} {t : ℕ} {s : List ℕ} {p low k : ℕ} {v : Form} (form : FormOf q w t (get_or s low 0) v) (code : k ≡ form_number v) where
  pub step_base : {s₁ : List ℕ} → (v ≡ Form.Int) ⊎ (v ≡ Form.Bool) → s₁ ≡ set s p k → Steps q w t s s₁ p low (record { at = p + 1; low = low + 1 })
  step_base h e = record { is = λ T d o. step_whole (k ∷ []) (omega arith) (base_words (coded v form code) (omega (arith, base_form h)) T d) e }

  pub step_name : {a : TyVar} {s₁ s₂ : List ℕ} → Named q w t (get_or s low 0) a → (v ≡ Form.Var) ⊎ (v ≡ Form.ETVar)
      → s₁ ≡ set s p k → s₂ ≡ set s₁ (p + 1) a.0 → Steps q w t s s₂ p low (record { at = p + 2; low = low + 1 })
  unfolding ty_words ty_code
  step_name {a} {s₂ = s₂} n h e f = record {
    is = by_name (λ T. p + size T ≤ low + 1 → Stepped q w t s s₂ p low T (record { at = p + 2; low = low + 1 }))
        (coded v form code) (omega (arith, (name_form h).0)) (omega (arith, (name_form h).1))
        (λ b d o. step_whole (k ∷ a.0 ∷ []) (omega arith) (named_words 3 [] (code ∙ form.is (var b) d) (n.of_var b d)) (name_put s p k a.0 e f))
        (λ b d o. step_whole (k ∷ a.0 ∷ []) (omega arith) (named_words 4 [] (code ∙ form.is (etvar b) d) (n.of_etvar b d)) (name_put s p k a.0 e f));
  }

  pub step_arrow : {l m : ℕ} {s₁ s₂ s₃ : List ℕ} → LeftOf q w t (get_or s low 0) l → RightOf q w t (get_or s low 0) m
      → v ≡ Form.Arrow → low < length s → s₁ ≡ set s p k → s₂ ≡ set s₁ low m → s₃ ≡ set s₂ (low - 1) l
      → Steps q w t s s₃ p low (record { at = p + 1; low = low - 1 })
  unfolding ty_words ty_code
  step_arrow {l} {m} {s₁} {s₂} {s₃} x y h within e f g = record {
    is = by_arrow (λ T. p + size T ≤ low + 1 → Stepped q w t s s₃ p low T (record { at = p + 1; low = low - 1 }))
        (coded v form code) (code ∙ ap form_number h) go;
  }
    where
      go : (A B : Ty) → Den q w t (get_or s low 0) (arrow A B) → p + size (arrow A B) ≤ low + 1
          → Stepped q w t s s₃ p low (arrow A B) (record { at = p + 1; low = low - 1 })
      go A B d o =
          let a = size_some A in
          let b = size_some B in
          let n₁ : length s₁ ≡ length s = ap length e ∙ length-set s p k in
          let n₂ : length s₂ ≡ length s₁ = ap length f ∙ length-set s₁ low m in
          let left : get_or s₃ (low - 1) 0 ≡ l = ap (λ (x : List ℕ). get_or x (low - 1) 0) g ∙ get_or-set_same s₂ (low - 1) l 0 (omega arith) in
          let right : get_or s₃ low 0 ≡ m =
          ap (λ (x : List ℕ). get_or x low 0) g ∙ get_or-set_other s₂ (low - 1) low l 0 (omega arith)
          ∙ ap (λ (x : List ℕ). get_or x low 0) f ∙ get_or-set_same s₁ low m 0 (omega arith) in
          let next : low - 1 + 1 ≡ low = omega arith in
          let end : low - 1 + 1 + 1 ≡ low + 1 = omega arith in
          let dl : Den q w t (get_or s₃ (low - 1) 0) A = rw left (x.is A B d).den in
          let dr : Den q w t (get_or s₃ (low - 1 + 1) 0) B = rw (next, right) (y.is A B d).den in
          let k₂ : Keep (p + 1) (low + 1) s₁ s₂ = rw f (keep_set (p + 1) (low + 1) s₁ low m (omega arith) (omega arith)) in
          let k₃ : Keep (p + 1) (low + 1) s₂ s₃ = rw g (keep_set (p + 1) (low + 1) s₂ (low - 1) l (omega arith) (omega arith)) in
          record {
            head = k ∷ [];
            tail = ty_words A ++ (ty_words B ++ []);
            is = rw (code ∙ ap form_number h, append-nil);
            some = omega arith;
            at_is = refl;
            keep = rw e at (keep_trans k₂ k₃);
            waits = more dl (more dr (no_more end) refl) refl;
          }

  pub step_forall : {a : TyVar} {m : ℕ} {s₁ s₂ s₃ : List ℕ} → Named q w t (get_or s low 0) a → BodyOf q w t (get_or s low 0) m
      → v ≡ Form.Forall → low < length s → s₁ ≡ set s p k → s₂ ≡ set s₁ (p + 1) a.0 → s₃ ≡ set s₂ low m
      → Steps q w t s s₃ p low (record { at = p + 2; low = low })
  unfolding ty_words ty_code
  step_forall {a} {m} {s₁} {s₂} {s₃} n y h within e f g = record {
    is = by_forall (λ T. p + size T ≤ low + 1 → Stepped q w t s s₃ p low T (record { at = p + 2; low = low }))
        (coded v form code) (code ∙ ap form_number h) go;
  }
    where
      go : (b : syntax.TyVar) (A : Ty) → Den q w t (get_or s low 0) (forall b A) → p + size (forall b A) ≤ low + 1
          → Stepped q w t s s₃ p low (forall b A) (record { at = p + 2; low = low })
      go b A d o =
          let z = size_some A in
          let n₁ : length s₁ ≡ length s = ap length e ∙ length-set s p k in
          let n₂ : length s₂ ≡ length s₁ = ap length f ∙ length-set s₁ (p + 1) a.0 in
          let body : get_or s₃ low 0 ≡ m = ap (λ (x : List ℕ). get_or x low 0) g ∙ get_or-set_same s₂ low m 0 (omega arith) in
          let dm : Den q w t (get_or s₃ low 0) A = rw body (y.is b A d).den in
          let k₃ : Keep (p + 2) (low + 1) s₂ s₃ = rw g (keep_set (p + 2) (low + 1) s₂ low m (omega arith) (omega arith)) in
          record {
            head = k ∷ a.0 ∷ [];
            tail = ty_words A ++ [];
            is = named_words 6 (ty_words A) (code ∙ ap form_number h) (n.of_forall b A d) ∙ ap (λ (vs : List ℕ). k ∷ a.0 ∷ vs) (sym (append-nil (ty_words A)));
            some = omega arith;
            at_is = refl;
            keep = rw (name_put s p k a.0 e f) at k₃;
            waits = more dm (no_more refl) refl;
          }
