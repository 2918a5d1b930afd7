-- Stepping through a reader, item by item.
use Prim.Native.Nat.{ℕ, suc, ◌+◌, ◌≤◌, ◌<◌}
use mathlib.Core.Path.{◌≡◌, refl, ap, ◌∙◌}
use mathlib.Core.List.{List, [], ◌∷◌}
use mathlib.Core.Bool.{Bool, true, false, ◌&&◌}
use native.Mathlib.Numerals.{add-one}
use native.Mathlib.Decide.{dec_le, ℕ_discrete}
use native.Mathlib.Omega.{arith}
use lib.ListN.{length, get_or, drop_of_length-le, length-take}
use lib.Seq.{slice-cons}
use lib.Dec.{leb}
use borrow.Author.Tests.{ne_eqb, lt-ltb, le-ltb, le-leb, lt-leb}
use Rattle.definition.specs.Syntax.{pick}
use Rattle.definition.specs.Question as definition
use Rattle.definition.specs.Question.{Read, got, fault, Reader, next, ◌>>=◌, give, word, any, within, written, variable, type_name, type, expression, row, one_of}
use Rattle.laws.proofs.Steps.{pick_true, pick_false}
use Rattle.layout.specs.Places.{CodeAt}
use Rattle.std.specs.Prelude.{Result, Ok, Err, IsErrAnd}
use Rattle.reading.specs.declared.Fault.{Fault}
use Rattle.reading.specs.Faults.{bad_shape, reserved_name, fault_of}
use Rattle.reading.specs.Items.{from, Inside, WordTo, TyTo, ExprTo, Reads, past, refused, Word, NameRead, WithinRead}

-- a `?` passes the fault on
pub passed : {T E : Type 0} {r : Result T E} {e : E} → IsErrAnd r (λ f. f ≡ e) → r ≡ Err e
passed {r = Ok x} h = absurd h
passed {r = Err f} h = ap Err h

-- a code that two forms of one shape share
pub one_or : {P : Type 0} {w a b : ℕ} → ((w ≡ a → ⊥) → w ≡ b) → (w ≡ a → P) → (w ≡ b → P) → P
one_or {w = w} {a} k x y = elim (ℕ_discrete w a) [
  | yes h ↦ x h
  | no n ↦ y (k n)
]

-- ## One word

pub from_end : (q : List ℕ) (p e : ℕ) → e ≤ p → from q p e ≡ []
from_end q p e h = drop_of_length-le _ {i = p} (omega (arith, length-take e q))

-- none is left
pub word_end : {A : Type 0} (k : ℕ → ℕ → Reader A) (q : List ℕ) (p e : ℕ) → e ≤ p → word k p (from q p e) ≡ fault 4 p
unfolding word
word_end k q p e h = rw (from_end q p e h)

pub word_is : {A : Type 0} (k : ℕ → ℕ → Reader A) {q : List ℕ} {p e w : ℕ} → e ≤ length q → Word q p e w
    → word k p (from q p e) ≡ k p w (p + 1) (from q (p + 1) e)
unfolding word
word_is k {q} {p} {e} l x = rw (add-one p, slice-cons p e q 0 x.inside l) (ap (λ w. k p w (suc p) (from q (suc p) e)) x.is)

-- the word is the code of no row, as a `match` tells it
abbrev pub Nones : {A : Type 0} → Type 0 → ℕ → List (ℕ × Reader A) → Type 0
Nones X w [] = X
Nones X w (r ∷ rows) = Nones (X × (w ≡ r.0 → ⊥)) w rows

rows_none : {A X : Type 0} (w : ℕ) (rows : List (ℕ × Reader A)) (m : Reader A) → Nones X w rows → (row w rows m ≡ m) × X
unfolding row
rows_none w [] m h = (refl, h)
rows_none w (r ∷ rows) m h =
    let k = rows_none w rows m h in
    (pick_false _ _ (ne_eqb w r.0 k.1.1) ∙ k.0, k.1.0)

-- a word that is to be one of a table's codes
module _ {A : Type 0} (rows : List (ℕ × Reader A)) (q : List ℕ) (p e : ℕ) where
  pub one_of_end : e ≤ p → one_of rows p (from q p e) ≡ fault 4 p
  unfolding one_of
  one_of_end h = word_end _ q p e h

  module _ (l : e ≤ length q) {w : ℕ} (x : Word q p e w) where
    pub one_of_is : {k : ℕ} → w ≡ k → one_of rows p (from q p e) ≡ row k rows (definition.bad_shape p) (p + 1) (from q (p + 1) e)
    unfolding one_of
    one_of_is h = word_is _ l x ∙ ap (λ w. row w rows (definition.bad_shape p) (p + 1) (from q (p + 1) e)) h

    pub one_of_none : Nones (Unit {0}) w rows → one_of rows p (from q p e) ≡ fault 4 p
    unfolding definition.bad_shape
    one_of_none n = one_of_is refl ∙ ap (λ (m : Reader A). m (p + 1) (from q (p + 1) e)) (rows_none _ rows _ n).0

-- ## One item after another

-- the answer after the one before: the next item's where that was read, and the same fault where it was not
pub data NextRead {A : Type 0} (q : List ℕ) (e : ℕ) (Stands : ℕ → A → ℕ → Type 0) (m : Reader A) : Result ℕ Fault → Result ℕ Fault → Type 0 where
  on : {p : ℕ} {r : Result ℕ Fault} → Reads q e (Stands p) r (m p (from q p e)) → NextRead q e Stands m (Ok p) r
  off : {f : Fault} → NextRead q e Stands m (Err f) (Err f)

abbrev pub TypeThen : List ℕ → ℕ → Result ℕ Fault → Result ℕ Fault → Type 0
TypeThen q e before r = NextRead q e (TyTo q) (type written) before r

abbrev pub ExprThen : List ℕ → ℕ → Result ℕ Fault → Result ℕ Fault → Type 0
ExprThen q e before r = NextRead q e (ExprTo q) expression before r

module _ {q : List ℕ} {e : ℕ} where
  pub reads_at : {A : Type 0} {S : A → ℕ → Type 0} {r : Result ℕ Fault} {o o' : Read A} → o' ≡ o → Reads q e S r o → Reads q e S r o'
  reads_at h x = rw h x

  pub reads_fault : {A : Type 0} {S : A → ℕ → Type 0} {f : Fault} {o : Read A} → Reads q e S (Err f) o → o ≡ fault_of f
  reads_fault (refused b) = refl

  pub reads_as : {A : Type 0} {S S' : A → ℕ → Type 0} {r : Result ℕ Fault} {o : Read A} → ((a : A) (m : ℕ) → S a m → S' a m) → Reads q e S r o
      → Reads q e S' r o
  reads_as g (past s l) = past (g _ _ s) l
  reads_as g (refused b) = refused b

  pub reads_map : {A B : Type 0} {S : A → ℕ → Type 0} {S' : B → ℕ → Type 0} {r : Result ℕ Fault} {o : Read A} (f : A → B)
      → ((a : A) (m : ℕ) → S a m → S' (f a) m) → Reads q e S r o → Reads q e S' r (next o (λ a. give (f a)))
  unfolding next give
  reads_map f g (past s l) = past (g _ _ s) l
  reads_map f g (refused b) = refused b

  -- an item and one more
  pub reads_two : {A B C : Type 0} {S : A → ℕ → Type 0} {S' : ℕ → B → ℕ → Type 0} {U : C → ℕ → Type 0} {m : Reader B} {r r' : Result ℕ Fault} {o : Read A}
      (f : A → B → C) → ((a : A) (b : B) (i j : ℕ) → S a i → S' i b j → U (f a b) j) → Reads q e S r o → NextRead q e S' m r r'
      → Reads q e U r' (next o (λ a. ◌>>=◌ m (λ b. give (f a b))))
  unfolding next ◌>>=◌
  reads_two f g (past s l) (on x) = reads_map (f _) (λ b j t. g _ b _ j s t) x
  reads_two f g (refused b) off = refused b

  -- an item and two more
  pub reads_three : {A B C D : Type 0} {S : A → ℕ → Type 0} {S' : ℕ → B → ℕ → Type 0} {S'' : ℕ → C → ℕ → Type 0} {U : D → ℕ → Type 0}
      {m : Reader B} {m' : Reader C} {r r' r'' : Result ℕ Fault} {o : Read A} (f : A → B → C → D)
      → ((a : A) (b : B) (c : C) (i j k : ℕ) → S a i → S' i b j → S'' j c k → U (f a b c) k) → Reads q e S r o → NextRead q e S' m r r'
      → NextRead q e S'' m' r' r'' → Reads q e U r'' (next o (λ a. ◌>>=◌ m (λ b. ◌>>=◌ m' (λ c. give (f a b c)))))
  unfolding next ◌>>=◌
  reads_three f g (past s l) (on x) y = reads_two (f _) (λ b c j k t u. g _ b c _ j k s t u) x y
  reads_three f g (refused b) off off = refused b

-- what follows an item's code and one word
pub after_word : {q : List ℕ} (p : ℕ) {n m : ℕ} → WordTo q (p + 1) n m → m ≡ p + 2
after_word p s = omega arith

-- ## Names

pub code_at : {q : List ℕ} {p e w k : ℕ} → Inside q p e → Word q p e w → w ≡ k → CodeAt q p k
code_at i x k = record { inside = omega arith; within = omega arith; is = x.is ∙ k }

module _ {q : List ℕ} {p e : ℕ} (i : Inside q p e) where
  pub name_end : {f : Fault} → (e ≤ p) × (f ≡ bad_shape p) → NameRead q p e (Err f)
  unfolding written
  name_end h = rw h.1 (reads_at (word_end _ q p e h.0) (refused i.low))

  module _ {w : ℕ} (x : Word q p e w) where
    pub name_past : w < 1_000_000 → NameRead q p e (Ok (p + 1))
    unfolding written give
    name_past l =
        let s : WordTo q p w (p + 1) = record { at = record { within = omega arith; is = x.is }; to = refl } in
        reads_at (word_is _ i.high x ∙ ap (λ (m : Reader ℕ). m (p + 1) (from q (p + 1) e)) (pick_true _ _ (lt-ltb _ _ l))) (past s (omega arith))

    pub name_reserved : 1_000_000 ≤ w → NameRead q p e (Err (reserved_name p))
    unfolding written definition.reserved_name
    name_reserved l =
        reads_at (word_is _ i.high x ∙ ap (λ (m : Reader ℕ). m (p + 1) (from q (p + 1) e)) (pick_false _ _ (le-ltb _ _ l)))
        (refused i.low)

module _ {q : List ℕ} {p e : ℕ} {r : Result ℕ Fault} (x : NameRead q p e r) where
  pub variable_read : Reads q e (λ v m. WordTo q p v.number m) r (variable written p (from q p e))
  unfolding variable ◌>>=◌
  variable_read = reads_map (λ n. record { number = n }) (λ n m s. s) x

  pub type_name_read : Reads q e (λ a m. WordTo q p a.number m) r (type_name written p (from q p e))
  unfolding type_name ◌>>=◌
  type_name_read = reads_map (λ n. record { number = n }) (λ n m s. s) x

-- ## Numbers

module _ {q : List ℕ} {p e : ℕ} (i : Inside q p e) (low high : ℕ) where
  pub within_end : {f : Fault} → (e ≤ p) × (f ≡ bad_shape p) → WithinRead q p e low high (Err f)
  unfolding within
  within_end h = rw h.1 (reads_at (word_end _ q p e h.0) (refused i.low))

  module _ {w : ℕ} (x : Word q p e w) where
    -- by the test of the word that stands there
    within_word : {b : Bool} → (leb low w && leb w high) ≡ b
        → within low high p (from q p e) ≡ pick b (give w) (definition.bad_shape p) (p + 1) (from q (p + 1) e)
    unfolding within
    within_word k = word_is _ i.high x ∙ ap (λ b. pick b (give w) (definition.bad_shape p) (p + 1) (from q (p + 1) e)) k

    pub within_is : low ≤ w → w ≤ high → within low high p (from q p e) ≡ got w (p + 1) (from q (p + 1) e)
    unfolding pick give
    within_is l m = within_word {b = true} (rw (le-leb low _ l, le-leb _ high m))

    pub within_past : low ≤ w → w ≤ high → WithinRead q p e low high (Ok (p + 1))
    within_past l m =
        let s : WordTo q p w (p + 1) = record { at = record { within = omega arith; is = x.is }; to = refl } in
        reads_at (within_is l m) (past (record { word = s; least = l; most = m }) (omega arith))

    within_low : w < low → WithinRead q p e low high (Err (bad_shape p))
    unfolding pick definition.bad_shape
    within_low l = reads_at (within_word {b = false} (rw (lt-leb low _ l))) (refused i.low)

    within_high : low ≤ w → high < w → WithinRead q p e low high (Err (bad_shape p))
    unfolding pick definition.bad_shape
    within_high l m = reads_at (within_word {b = false} (rw (le-leb low _ l, lt-leb _ high m))) (refused i.low)

    pub within_none : (low ≤ w → w ≤ high → ⊥) → WithinRead q p e low high (Err (bad_shape p))
    within_none n = elim (dec_le low w) [
      | yes l ↦ within_high l (omega (arith, n l))
      | no l ↦ within_low (omega arith)
    ]

pub any_end : (q : List ℕ) (p e : ℕ) → e ≤ p → any p (from q p e) ≡ fault 4 p
unfolding any
any_end q p e h = word_end _ q p e h

pub any_is : (q : List ℕ) (p e : ℕ) → p < e → e ≤ length q → any p (from q p e) ≡ got (get_or q p 0) (p + 1) (from q (p + 1) e)
unfolding any give
any_is q p e h l = word_is _ l (record { inside = h; is = refl })
