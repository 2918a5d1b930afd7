-- The readers' laws: what they ask of the words, and what the words they read tell.
use mathlib.Core.Path.{◌≡◌, ◌∙◌, ap, ap₂}
use mathlib.Core.Bool.{Bool, ◌&&◌}
use mathlib.Core.List.{List}
use Prim.Native.Nat.{ℕ, ◌+◌, ◌-◌, ◌≤◌, ◌<◌}
use native.Mathlib.Omega.{arith}
use lib.ListN.{length, get_or, take, drop}
use Rattle.definition.specs.Syntax as syntax
use Rattle.definition.specs.Syntax.{Ty, var, etvar, arrow, forall}
use Rattle.definition.specs.Types.{is_mono}
use Rattle.definition.specs.Rules.{ty_code}
use Rattle.layout.specs.Sizes.{BASE, ENDS}
use Rattle.layout.specs.Monotypes.{number_at, mono_at, mono_of, past}
use Rattle.layout.specs.Places.{size, TyAt, var_at, etvar_at, arrow_at, forall_at}
use Rattle.layout.specs.Denotes.{capped, Base, Den, written}
use Rattle.layout.specs.declared.TyVar.{TyVar}
use Rattle.layout.proofs.Places.{ty_code_lem, ty_within}
use Rattle.layout.proofs.Monotypes.{mono_in_question, mono_in_work}
use Rattle.layout.proofs.Denotes.{den_written, past_ty, mono_is_walk}
use Rattle.types.specs.Reading.{Held, HeldAs, Tagged, Mono, Named, PartBelow, LeftOf, RightOf, BodyOf, LengthOf, record_size, RecordLength, WordsOf}
use Rattle.types.proofs.Codes.{arrow_case, forall_case, Naming, var_names, etvar_names, forall_names, sizes, two_words, leaf_size}
use Rattle.types.proofs.Records.{made_record, made_length, made_name, made_left, made_right, made_body}

-- ## What the code tells of what is held

pub record ArrowHeld (q w : List ℕ) (t r : ℕ) : Type 0 where
  pub A : Ty
  pub B : Ty
  pub den : Den q w t r (arrow A B)

pub arrow_held : {q w : List ℕ} {t r : ℕ} → HeldAs q w t r 5 → ArrowHeld q w t r
arrow_held {q} {w} {t} {r} h =
    arrow_case (λ T. Den q w t r T → ArrowHeld q w t r) h.held.type h.code (λ A B d. record { A = A; B = B; den = d }) h.held.den

pub record ForallHeld (q w : List ℕ) (t r : ℕ) : Type 0 where
  pub a : syntax.TyVar
  pub A : Ty
  pub den : Den q w t r (forall a A)

pub forall_held : {q w : List ℕ} {t r : ℕ} → HeldAs q w t r 6 → ForallHeld q w t r
forall_held {q} {w} {t} {r} h =
    forall_case (λ T. Den q w t r T → ForallHeld q w t r) h.held.type h.code (λ a A d. record { a = a; A = A; den = d }) h.held.den

-- ## A type in the question

written_left : {q w : List ℕ} {t r : ℕ} {A B : Ty} → TyAt q r (arrow A B) → PartBelow q w t r (r + 1) A
written_left (arrow_at c d e f) = record { den = written d; less = omega (arith, (ty_code_lem d).inside) }

written_right : {q w : List ℕ} {t r : ℕ} {A B : Ty} → TyAt q r (arrow A B) → PartBelow q w t r (r + 1 + size A) B
written_right (arrow_at c d e f) = rw e (record { den = written f; less = omega (arith, (ty_code_lem f).inside) })

written_body : {q w : List ℕ} {t r : ℕ} {a : syntax.TyVar} {A : Ty} → TyAt q r (forall a A) → PartBelow q w t r (r + 2) A
written_body (forall_at c n d) = record { den = written d; less = omega (arith, (ty_code_lem d).inside) }

left_inside : {q : List ℕ} {r : ℕ} {A B : Ty} → TyAt q r (arrow A B) → r + 1 < BASE
left_inside (arrow_at c d e f) = (ty_code_lem d).inside

left_past : {q w : List ℕ} {t r : ℕ} {A B : Ty} → Base q w t → TyAt q r (arrow A B) → past w (r + 1) ≡ r + 1 + size A
left_past b (arrow_at c d e f) = past_ty b d

past_is : {q w : List ℕ} {t r : ℕ} {T : Ty} → Held q w t r → r < BASE → Den q w t r T → past w r ≡ r + size T
past_is h l d = past_ty h.base (den_written l d)

-- ## Places that a reader may look at

module _ {q w : List ℕ} {t r : ℕ} (h : Held q w t r) where
  pub name_in_question : r < BASE → 3 ≤ ty_code h.type → r + 1 < length q
  name_in_question l c = omega (arith, ty_within (den_written l h.den), (two_words h.type c).0)

  pub record_in_work : BASE ≤ r → r - BASE + record_size h.type ≤ length w
  record_in_work l = omega (arith, (made_record l h.den).end, h.fits)

  pub name_in_work : BASE ≤ r → 3 ≤ ty_code h.type → r - BASE + 1 < length w
  name_in_work l c = omega (arith, record_in_work l, (two_words h.type c).1)

  pub four_in_work : BASE ≤ r → 5 ≤ ty_code h.type → r - BASE + 4 ≤ length w
  four_in_work l c = omega (arith, record_in_work l, (sizes h.type).four c)

-- ## What a reader finds there

module _ {q w : List ℕ} {t r k : ℕ} where
  pub tagged_written : r < BASE → k ≡ get_or q r 0 → Tagged q w t r k
  tagged_written l e = record { is = λ T d. e ∙ (ty_code_lem (den_written l d)).is }

  pub tagged_made : BASE ≤ r → k ≡ number_at w (r - BASE) → Tagged q w t r k
  tagged_made l e = record { is = λ T d. e ∙ (made_record l d).code }

  pub left_made : BASE ≤ r → k ≡ get_or w (r - BASE + 1) 0 → LeftOf q w t r k
  left_made l e = record { is = λ A B d. rw e (made_left l d) }

  pub right_made : BASE ≤ r → k ≡ get_or w (r - BASE + 2) 0 → RightOf q w t r k
  right_made l e = record { is = λ A B d. rw e (made_right l d) }

  pub body_made : BASE ≤ r → k ≡ get_or w (r - BASE + 2) 0 → BodyOf q w t r k
  body_made l e = record { is = λ a A d. rw e (made_body l d) }

  pub right_written : Base q w t → r < BASE → k ≡ past w (r + 1) → RightOf q w t r k
  right_written b l e = record { is = λ A B d. rw (e ∙ left_past b (den_written l d)) (written_right (den_written l d)) }

module _ {q w : List ℕ} {t r : ℕ} {b : Bool} (h : Held q w t r) where
  mono_is : b ≡ mono_of w r → Mono q w t r b
  mono_is e = record { is = λ T d. e ∙ mono_is_walk h.base d }

  pub mono_written : r < BASE → b ≡ mono_at w (ENDS + r) → Mono q w t r b
  mono_written l e = mono_is (e ∙ mono_in_question w r l)

  pub mono_made : BASE ≤ r → b ≡ mono_at w (r - BASE) → Mono q w t r b
  mono_made l e = mono_is (e ∙ mono_in_work w r l)

pub arrow_mono : {q w : List ℕ} {t l m : ℕ} {a b : Bool} {A B : Ty} → Mono q w t l a → Mono q w t m b → Den q w t l A → Den q w t m B
    → (a && b) ≡ is_mono (arrow A B)
unfolding is_mono
arrow_mono x y d e = ap₂ ◌&&◌ (x.is _ d) (y.is _ e)

pub left_written : {q w : List ℕ} {t r : ℕ} → r < BASE → LeftOf q w t r (r + 1)
left_written l = record { is = λ A B d. written_left (den_written l d) }

pub body_written : {q w : List ℕ} {t r : ℕ} → r < BASE → BodyOf q w t r (r + 2)
body_written l = record { is = λ a A d. written_body (den_written l d) }

pub left_in_table : {q w : List ℕ} {t r : ℕ} → HeldAs q w t r 5 → r < BASE → ENDS + (r + 1) < length w
left_in_table h l = omega (arith, left_inside (den_written l (arrow_held h).den), h.held.base.floor, h.held.fits)

-- ## Names

named : {q w : List ℕ} {t r : ℕ} {a : TyVar} → ((T : Ty) (b : syntax.TyVar) → Naming T b → Den q w t r T → a.0 ≡ b.number) → Named q w t r a
named f = record {
  of_var = λ b d. ap (λ (n : ℕ). record { number = n }) (f (var b) b var_names d);
  of_etvar = λ b d. ap (λ (n : ℕ). record { number = n }) (f (etvar b) b etvar_names d);
  of_forall = λ b A d. ap (λ (n : ℕ). record { number = n }) (f (forall b A) b forall_names d);
}

name_written : {q : List ℕ} {r : ℕ} {T : Ty} {b : syntax.TyVar} → Naming T b → TyAt q r T → get_or q (r + 1) 0 ≡ b.number
name_written var_names (var_at c n) = n.is
name_written etvar_names (etvar_at c n) = n.is
name_written forall_names (forall_at c n d) = n.is

pub named_written : {q w : List ℕ} {t r : ℕ} {a : TyVar} → r < BASE → a.0 ≡ get_or q (r + 1) 0 → Named q w t r a
named_written l e = named (λ T b n d. e ∙ name_written n (den_written l d))

pub named_made : {q w : List ℕ} {t r : ℕ} {a : TyVar} → BASE ≤ r → a.0 ≡ get_or w (r - BASE + 1) 0 → Named q w t r a
named_made l e = named (λ T b n d. e ∙ made_name l n d)

-- ## Lengths and words

module _ {q w : List ℕ} {t r : ℕ} (h : Held q w t r) where
  length_of : {n : ℕ} → ((T : Ty) → Den q w t r T → n ≡ capped (size T)) → LengthOf q w t r n
  length_of f = record { is = f; word = omega (arith, f h.type h.den) }

  pub length_written : {e : ℕ} → r < BASE → e ≡ past w r → LengthOf q w t r (e - r)
  length_written l f = length_of (λ T d. omega (arith, past_is h l d))

  pub length_leaf : {k n : ℕ} → Tagged q w t r k → k < 5 → RecordLength k n → LengthOf q w t r n
  length_leaf c l n = length_of (λ T d. n.is T (c.is T d) ∙ leaf_size T (omega (arith, c.is T d)))

  pub length_made : {k n : ℕ} → BASE ≤ r → Tagged q w t r k → 5 ≤ k → n ≡ get_or w (r - BASE + 3) 0 → LengthOf q w t r n
  length_made l c g e = length_of (λ T d. e ∙ made_length l (omega (arith, c.is T d)) d)

  pub end_in_question : {e : ℕ} → r < BASE → e ≡ past w r → (r ≤ e) × (e ≤ length q)
  end_in_question l f = (omega (arith, past_is h l h.den), omega (arith, past_is h l h.den, ty_within (den_written l h.den)))

  pub words_written : {e : ℕ} → r < BASE → e ≡ past w r → WordsOf q w t r (take (e - r) (drop r q))
  words_written {e} l f = record {
    in_question = λ m T d. let z : e - r ≡ size T = omega (arith, past_is h l d) in ap (λ (n : ℕ). take n (drop r q)) z;
    in_work = λ m T d. absurd (omega arith);
  }

  pub end_in_work : {k n : ℕ} → BASE ≤ r → Tagged q w t r k → RecordLength k n → r - BASE + n ≤ length w
  end_in_work l c n = omega (arith, record_in_work h l, n.is h.type (c.is h.type h.den))
