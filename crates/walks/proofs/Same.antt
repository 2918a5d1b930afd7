-- The arms of `same_type`.
use mathlib.Core.Path.{◌≡◌, refl, sym, ap, ap₂, ◌∙◌}
use mathlib.Core.List.{List, ◌∷◌}
use mathlib.Core.Bool.{Bool, true, false, not, ◌&&◌}
use Prim.Native.Nat.{ℕ, ◌+◌, ◌*◌, ◌≤◌, ◌<◌}
use native.Mathlib.Nat.{le_refl}
use native.Mathlib.Omega.{arith}
use lib.ListN.{length}
use denote.Enum.Bare.{sameb, differs_true, differs_false}
use Rattle.definition.specs.Syntax as syntax
use Rattle.definition.specs.Syntax.{Ty, int, bool, var, etvar, arrow, forall}
use Rattle.definition.specs.Types.{same_name}
use Rattle.definition.specs.Rules.{ty_code, as_var, as_etvar, as_arrow, as_forall, ◌or_else◌, on, Letters, same_var, same_ty}
use Rattle.laws.proofs.Letters.{other_forms}
use Rattle.layout.specs.Names.{ty}
use Rattle.layout.specs.Words.{Keep, Put2}
use Rattle.layout.specs.Places.{size}
use Rattle.layout.specs.Denotes.{Den}
use Rattle.layout.proofs.Words.{keep_refl, keep_trans, keep_less}
use Rattle.layout.proofs.Denotes.{den_frame, base_frame}
use Rattle.types.specs.Reading.{Held, HeldAs, Tagged, form_number, rank, LeftOf, RightOf, BodyOf}
use Rattle.types.specs.declared.Form.{Form}
use Rattle.types.specs.contracts.Form.{the_type}
use Rattle.types.proofs.Codes.{same_form}
use Rattle.types.proofs.Held.{held_as, held_named, left_below, right_below, body_below}
use Rattle.types.proofs.Cases.{by_base, by_name, by_arrow, by_forall}
use Rattle.walks.specs.Letters.{BothNamed, BothNames, letters_at, Comparing, Same}
use Rattle.walks.specs.declared.NamePair.{NamePair}
use Rattle.walks.proofs.Letters.{below, letters_stay, laid}

-- ## What comparing two forms tells

pub forms_agree : (f g : Form) → false ≡ not (sameb the_type f g) → f ≡ g
forms_agree f g e = differs_false the_type tt f g (sym e)

pub forms_differ : (f g : Form) → true ≡ not (sameb the_type f g) → form_number f ≡ form_number g → ⊥
forms_differ f g e n = differs_true the_type f g (sym e) (same_form f g n)

-- ## What a call asks for

-- what is held, or a part of it, once words past the top are other ones
abbrev held_on : {q w w₁ : List ℕ} {t h r a : ℕ} {A : Ty} → Held q w t r → Keep t h w w₁ → Den q w t a A → Held q w₁ t a
held_on x k d = record {
  base = base_frame k (le_refl _) x.base;
  fits = omega (arith, x.fits, k.long);
  cap = omega (arith, x.cap, k.long);
  type = _;
  den = den_frame k (le_refl _) d;
}

-- two parts may be compared
parts : {q w w₁ : List ℕ} {t h r a b : ℕ} {A B : Ty} (n : ℕ) → Held q w t r → Keep t h w w₁ → Den q w t a A → Den q w t b B
    → t + 2 * n + size B ≤ length w → Comparing q w₁ t n a b
parts n x k d e room = record { one = held_on x k d; two = held_on x k e; room = omega (arith, room, k.long) }

-- both references lead to types of one code, as the call goes on; v is the measure of the call
pub record OneCode (v : ℕ) : Type 0 where
  pub q : List ℕ
  pub w : List ℕ
  pub t : ℕ
  pub n : ℕ
  pub r : ℕ
  pub s : ℕ
  pub k : ℕ
  pub measure : rank r ≡ v
  pub comparing : Comparing q w t n r s
  pub one : Tagged q w t r k
  pub two : Tagged q w t s k

abbrev letters_of : {v : ℕ} → OneCode v → Letters
letters_of i = letters_at i.w i.t i.n

-- what the references denote
abbrev IsOne : {v : ℕ} → OneCode v → Ty → Type 0
IsOne i A = Den i.q i.w i.t i.r A

abbrev IsTwo : {v : ℕ} → OneCode v → Ty → Type 0
IsTwo i B = Den i.q i.w i.t i.s B

-- what the call tells, with the words that work has then
abbrev Tells : {v : ℕ} → OneCode v → List ℕ → Bool → Type 0
Tells i w₁ z = Same i.q i.w w₁ i.t i.n i.r i.s z

-- words stay, but for those past the pairs, as many as the second type has
abbrev Keeps : {v : ℕ} → OneCode v → List ℕ → Ty → Type 0
Keeps i w₁ B = Keep (i.t + 2 * i.n) (i.t + 2 * i.n + size B) i.w w₁

module _ {v : ℕ} (i : OneCode v) where
  both_named : 3 ≤ i.k → (i.k ≡ 5 → ⊥) → BothNamed i.q i.w i.t i.r i.s
  both_named l f = record { one = held_named i.comparing.one i.one l f; two = held_named i.comparing.two i.two l f }

  pub vars_named : i.k ≡ 3 → BothNamed i.q i.w i.t i.r i.s
  vars_named e = both_named (omega arith) (λ f. omega arith)

  pub etvars_named : i.k ≡ 4 → BothNamed i.q i.w i.t i.r i.s
  etvars_named e = both_named (omega arith) (λ f. omega arith)

  pub foralls_named : i.k ≡ 6 → BothNamed i.q i.w i.t i.r i.s
  foralls_named e = both_named (omega arith) (λ f. omega arith)

  pub one_as : (j : ℕ) → i.k ≡ j → HeldAs i.q i.w i.t i.r j
  one_as j e = held_as i.comparing.one i.one j e

  pub two_as : (j : ℕ) → i.k ≡ j → HeldAs i.q i.w i.t i.s j
  two_as j e = held_as i.comparing.two i.two j e

-- ## Names, and types of other forms

-- nothing was written
told : {q w : List ℕ} {t n r s : ℕ} {z : Bool} → ((A B : Ty) → Den q w t r A → Den q w t s B → z ≡ same_ty (letters_at w t n) A B) → Same q w w t n r s z
told f = record { is = f; keep = λ B d. keep_refl _ _ _ }

pub same_apart : {q w : List ℕ} {t n r s k m : ℕ} → Tagged q w t r k → Tagged q w t s m → (k ≡ m → ⊥) → Same q w w t n r s false
same_apart {w = w} {t = t} {n = n} c c' f = told (λ A B d e. sym (other_forms (letters_at w t n) A B (λ g. f (c.is A d ∙ g ∙ sym (c'.is B e)))))

module _ {v : ℕ} (i : OneCode v) where
  pub same_base : i.k < 3 → Tells i i.w true
  unfolding ty_code same_ty
  same_base l =
      told (λ A B d e. by_base (λ A. true ≡ same_ty (letters_of i) A B) i.one l
      (λ d. by_base (λ B. true ≡ same_ty (letters_of i) int B) i.two l (λ e. refl) (λ e. absurd (omega (arith, i.one.is int d, i.two.is bool e))) B e)
      (λ d. by_base (λ B. true ≡ same_ty (letters_of i) bool B) i.two l (λ e. absurd (omega (arith, i.one.is bool d, i.two.is int e))) (λ e. refl) B e)
      A d)

  module _ {p : NamePair} (x : BothNames i.q i.w i.t i.r i.s p) where
    pub same_vars : {z : Bool} → i.k ≡ 3 → z ≡ same_var (letters_of i) (ty p.a) (ty p.b) → Tells i i.w z
    unfolding ty_code same_ty on ◌or_else◌ as_var
    same_vars {z} three f = told (λ A B d e. by_name (λ A. z ≡ same_ty (letters_of i) A B) i.one (omega arith) (omega arith)
        (λ a d. by_name (λ B. z ≡ same_ty (letters_of i) (var a) B) i.two (omega arith) (omega arith)
        (λ b e. f ∙ ap₂ (same_var (letters_of i)) (x.one.of_var a d) (x.two.of_var b e))
        (λ b e. absurd (omega (arith, i.two.is (etvar b) e))) B e)
        (λ a d. absurd (omega (arith, i.one.is (etvar a) d)))
        A d)

    pub same_etvars : {z : Bool} → i.k ≡ 4 → z ≡ same_var (letters_at i.w i.t 0) (ty p.a) (ty p.b) → Tells i i.w z
    unfolding ty_code same_ty on ◌or_else◌ as_etvar same_var letters_at
    same_etvars {z} four f = told (λ A B d e. by_name (λ A. z ≡ same_ty (letters_of i) A B) i.one (omega arith) (omega arith)
        (λ a d. absurd (omega (arith, i.one.is (var a) d)))
        (λ a d. by_name (λ B. z ≡ same_ty (letters_of i) (etvar a) B) i.two (omega arith) (omega arith)
        (λ b e. absurd (omega (arith, i.two.is (var b) e)))
        (λ b e. f ∙ ap₂ same_name (x.one.of_etvar a d) (x.two.of_etvar b e)) B e)
        A d)

-- ## Arrows

-- both are Arrows, and their parts were read
pub record Arrows (v : ℕ) : Type 0 where
  pub on : OneCode v
  pub five : on.k ≡ 5
  pub from : ℕ
  pub to : ℕ
  pub from' : ℕ
  pub to' : ℕ
  pub left : LeftOf on.q on.w on.t on.r from
  pub right : RightOf on.q on.w on.t on.r to
  pub left' : LeftOf on.q on.w on.t on.s from'
  pub right' : RightOf on.q on.w on.t on.s to'

module _ {v : ℕ} (i : Arrows v) where
  by_second_arrow : {X : Type 0} → ((B B' : Ty) → IsTwo i.on (arrow B B')
      → i.on.t + 2 * i.on.n + size (arrow B B') ≤ length i.on.w → X) → X
  by_second_arrow {X} f =
      by_arrow (λ B. i.on.t + 2 * i.on.n + size B ≤ length i.on.w → X) i.on.two i.five f _ i.on.comparing.two.den i.on.comparing.room

  pub lefts_below : (rank i.from < v) × Comparing i.on.q i.on.w i.on.t i.on.n i.from i.from'
  lefts_below =
      let x = left_below i.on.measure (one_as i.on 5 i.five) i.left in (
        x.0,
        by_second_arrow (λ B B' d room.
            parts i.on.n i.on.comparing.one (keep_refl _ 0 _) x.1.den (i.left'.is B B' d).den (omega arith)),
      )

-- their left parts were compared
pub record LeftsCompared (v : ℕ) : Type 0 where
  pub both : Arrows v
  pub w₁ : List ℕ
  pub same : Bool
  pub told : Same both.on.q both.on.w w₁ both.on.t both.on.n both.from both.from' same

module _ {v : ℕ} (j : LeftsCompared v) where
  lefts_keep : (B B' : Ty) → IsTwo j.both.on (arrow B B') → Keeps j.both.on j.w₁ (arrow B B')
  lefts_keep B B' e = keep_less (le_refl _) (omega arith) (j.told.keep B (j.both.left'.is B B' e).den)

  pub rights_below : (rank j.both.to < v) × Comparing j.both.on.q j.w₁ j.both.on.t j.both.on.n j.both.to j.both.to'
  rights_below =
      let i = j.both in
      let x = right_below i.on.measure (one_as i.on 5 i.five) i.right in (
        x.0,
        by_second_arrow i (λ B B' d room.
            parts i.on.n i.on.comparing.one (below i.on.t i.on.n (lefts_keep B B' d)) x.1.den (i.right'.is B B' d).den (omega arith)),
      )

  by_arrows : {w₂ : List ℕ} (z : Bool)
      → ((A A' B B' : Ty) → IsOne j.both.on (arrow A A')
      → IsTwo j.both.on (arrow B B')
      → j.same ≡ same_ty (letters_of j.both.on) A B → z ≡ (same_ty (letters_of j.both.on) A B && same_ty (letters_of j.both.on) A' B'))
      → ((B B' : Ty) → IsTwo j.both.on (arrow B B') → Keeps j.both.on w₂ (arrow B B'))
      → Tells j.both.on w₂ z
  unfolding same_ty on ◌or_else◌ as_arrow
  by_arrows {w₂} z f g = let i = j.both in record {
    is = λ A B d e. by_arrow (λ A. z ≡ same_ty (letters_of i.on) A B) i.on.one i.five
        (λ A A' d. by_arrow (λ B. z ≡ same_ty (letters_of i.on) (arrow A A') B) i.on.two i.five
        (λ B B' e. f A A' B B' d e (j.told.is A B (i.left.is A A' d).den (i.left'.is B B' e).den)) B e) A d;
    keep = by_arrow (Keeps i.on w₂) i.on.two i.five g;
  }

  pub same_no : j.same ≡ false → Tells j.both.on j.w₁ j.same
  same_no f = by_arrows j.same (λ A A' B B' d e h. f ∙ rw (sym h ∙ f) refl) lefts_keep

  pub same_both : {w₂ : List ℕ} {z : Bool} → j.same ≡ true
      → Same j.both.on.q j.w₁ w₂ j.both.on.t j.both.on.n j.both.to j.both.to' z → Tells j.both.on w₂ z
  same_both {z = z} f rights =
      let i = j.both in
      by_arrows z (λ A A' B B' d e h.
      let kp = lefts_keep B B' e in
      let down = below i.on.t i.on.n kp in
      rw (sym h ∙ f, letters_stay i.on.t i.on.n kp)
      (rights.is A' B' (den_frame down (le_refl _) (i.right.is A A' d).den) (den_frame down (le_refl _) (i.right'.is B B' e).den)))
      (λ B B' e.
      let kp = lefts_keep B B' e in
      let down = below i.on.t i.on.n kp in
      keep_trans kp (keep_less (le_refl _) (omega arith) (rights.keep B' (den_frame down (le_refl _) (i.right'.is B B' e).den))))

-- ## Foralls

-- both are Foralls, and their letters and bodies were read
pub record Foralls (v : ℕ) : Type 0 where
  pub on : OneCode v
  pub six : on.k ≡ 6
  pub p : NamePair
  pub letters : BothNames on.q on.w on.t on.r on.s p
  pub under : ℕ
  pub under' : ℕ
  pub body : BodyOf on.q on.w on.t on.r under
  pub body' : BodyOf on.q on.w on.t on.s under'

module _ {v : ℕ} (i : Foralls v) where
  by_second_forall : {X : Type 0} → ((b : syntax.TyVar) (B : Ty) → IsTwo i.on (forall b B)
      → i.on.t + 2 * i.on.n + size (forall b B) ≤ length i.on.w → X) → X
  by_second_forall {X} f =
      by_forall (λ B. i.on.t + 2 * i.on.n + size B ≤ length i.on.w → X) i.on.two i.six f _ i.on.comparing.two.den i.on.comparing.room

  -- two words past the pairs
  pub pair_room : i.on.t + 2 * i.on.n + 2 ≤ length i.on.w
  pair_room = by_second_forall (λ b B d room. omega arith)

-- their letters were laid past the other pairs
pub record PairLaid (v : ℕ) : Type 0 where
  pub both : Foralls v
  pub w₁ : List ℕ
  pub put : Put2 both.on.w w₁ (both.on.t + 2 * both.on.n) both.p.a.0 both.p.b.0

module _ {v : ℕ} (j : PairLaid v) where
  pub bodies_below : (rank j.both.under < v) × Comparing j.both.on.q j.w₁ j.both.on.t (j.both.on.n + 1) j.both.under j.both.under'
  bodies_below =
      let i = j.both in
      let x = body_below i.on.measure (one_as i.on 6 i.six) i.body in (
        x.0,
        by_second_forall i (λ b B d room.
            parts (i.on.n + 1) i.on.comparing.one (below i.on.t i.on.n j.put.keep) x.1.den (i.body'.is b B d).den (omega arith)),
      )

  down : {k : ℕ} {C : Ty} → Den j.both.on.q j.both.on.w j.both.on.t k C → Den j.both.on.q j.w₁ j.both.on.t k C
  down d = den_frame (below j.both.on.t j.both.on.n j.put.keep) (le_refl _) d

  pub same_under : {w₂ : List ℕ} {z : Bool} → Same j.both.on.q j.w₁ w₂ j.both.on.t (j.both.on.n + 1) j.both.under j.both.under' z
      → Tells j.both.on w₂ z
  unfolding same_ty on ◌or_else◌ as_forall
  same_under {w₂} {z} inner = let i = j.both in record {
    is = λ A B d e. by_forall (λ A. z ≡ same_ty (letters_of i.on) A B) i.on.one i.six
        (λ a A d. by_forall (λ B. z ≡ same_ty (letters_of i.on) (forall a A) B) i.on.two i.six
        (λ b B e.
        inner.is A B (down (i.body.is a A d).den) (down (i.body'.is b B e).den)
        ∙ ap (λ ls. same_ty ls A B) (laid i.on.t i.on.n j.put
        ∙ ap₂ (λ c d. (c, d) ∷ letters_of i.on) (i.letters.one.of_forall a A d) (i.letters.two.of_forall b B e))) B e) A d;
    keep = by_forall (Keeps i.on w₂) i.on.two i.six
        (λ b B e. keep_trans (keep_less (le_refl _) (omega arith) j.put.keep)
        (keep_less (omega arith) (omega arith) (inner.keep B (down (i.body'.is b B e).den))));
  }
