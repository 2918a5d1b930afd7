-- Reading sections: a count, and what takes up its words.
use Prim.Native.Nat.{ℕ, ◌+◌, ◌-◌, ◌≤◌, ◌<◌}
use mathlib.Core.Path.{◌≡◌, refl, sym, ap, ◌∙◌}
use mathlib.Core.List.{List, [], ◌∷◌}
use mathlib.Core.Bool.{true, false}
use native.Mathlib.Nat.{le_refl, le_trans}
use native.Mathlib.Omega.{arith}
use lib.ListN.{length, take, drop}
use lib.Seq.{slice-cons, take-length, length-slice, length-take-le, take-add, drop-drop, drop_at}
use lib.Dec.{leb}
use borrow.Author.Tests.{le-leb, lt-leb}
use Rattle.definition.specs.Syntax.{pick}
use Rattle.definition.specs.Question as definition
use Rattle.definition.specs.Question.{Read, Reader, got, fault, next, ◌>>=◌, give, written, type_name, row, context, end, whole, counted, empty, unknown}
use Rattle.laws.proofs.Steps.{pick_true, pick_false}
use Rattle.layout.specs.Places.{etvar_at}
use Rattle.std.specs.Prelude.{Result, Ok, Err}
use Rattle.reading.specs.declared.Fault.{Fault}
use Rattle.reading.specs.declared.Part.{Part}
use Rattle.reading.specs.declared.Holds.{Holds}
use Rattle.reading.specs.declared.Holds.TheVariants.{Nothing, Entries, Expr, Ty, ETVar}
use Rattle.reading.specs.Faults.{bad_shape}
use Rattle.reading.specs.Items as items
use Rattle.reading.specs.Items.{from, Inside, Reads, Word, NameRead}
use Rattle.reading.specs.Contexts.{ContextTo, Leaves, past, refused, ContextRead}
use Rattle.reading.specs.Sections as sections
use Rattle.reading.specs.Sections.{UnknownRead, Whole, exact, early, ContentAt, nothing_at, entries_at, expr_at, ty_at, SectionRead}
use Rattle.reading.proofs.Items.{from_end, word_end, word_is, one_of_end, one_of_is, one_of_none, reads_at, reads_as, code_at, type_name_read, within_end, within_past, within_none}
use Rattle.reading.proofs.Contexts.{leaves_at}

-- ## The one ETVar

pub unknown_end : {q : List ℕ} {p e : ℕ} {f : Fault} → Inside q p e → (e ≤ p) × (f ≡ bad_shape p) → UnknownRead q p e (Err f)
unfolding unknown
unknown_end {q} {p} {e} i h = rw h.1 (reads_at (one_of_end _ q p e h.0) (items.refused i.low))

module _ {q : List ℕ} {p e : ℕ} (i : Inside q p e) {w : ℕ} (h : Word q p e w) where
  unknown_row : {k : ℕ} → w ≡ k → unknown p (from q p e) ≡ row k ((4, type_name written) ∷ []) (definition.bad_shape p) (p + 1) (from q (p + 1) e)
  unfolding unknown
  unknown_row k = one_of_is _ q p e i.high h k

  pub unknown_is : {r : Result ℕ Fault} → w ≡ 4 → NameRead q (p + 1) e r → UnknownRead q p e r
  unfolding row pick
  unknown_is k x =
      reads_at (unknown_row k)
      (reads_as (λ a m s. record { at = etvar_at (code_at i h k) s.at; to = omega arith }) (type_name_read x))

  pub unknown_none : {f : Fault} → (w ≡ 4 → ⊥) → f ≡ bad_shape p → UnknownRead q p e (Err f)
  unfolding unknown
  unknown_none n k = rw k (reads_at (one_of_none _ q p e i.high h (tt, n)) (items.refused i.low))

-- ## Words of a section

from_all : (q : List ℕ) (p : ℕ) → from q p (length q) ≡ drop p q
from_all q p = ap (drop p) (take-length q)

from_take : (q : List ℕ) (p n : ℕ) → p ≤ length q → take n (from q p (length q)) ≡ from q p (p + n)
from_take q p n h =
    ap (take n) (from_all q p)
    ∙ sym (ap (drop p) (take-add p n q) ∙ drop_at (take p q) (take n (drop p q)) p (length-take-le p q h))

from_drop : (q : List ℕ) (p n : ℕ) → drop n (from q p (length q)) ≡ from q (p + n) (length q)
from_drop q p n = ap (drop n) (from_all q p) ∙ drop-drop n p q ∙ sym (from_all q (p + n))

pub end_is : (q : List ℕ) (p e : ℕ) → e ≤ p → end p (from q p e) ≡ got tt p (from q p e)
unfolding end
end_is q p e h = rw (from_end q p e h)

pub end_more : (q : List ℕ) (p e : ℕ) → p < e → e ≤ length q → end p (from q p e) ≡ fault 4 p
unfolding end
end_more q p e h l = rw (slice-cons p e q 0 h l)

-- ## A fault at the count

leaves_fault : {A : Type 0} {q : List ℕ} {e : ℕ} {f : Fault} {S : A → ℕ → Type 0} {T : A → ℕ → ℕ → Type 0} {o : Read A} → Reads q e S (Err f) o
    → Leaves q e T (Err f) o
leaves_fault (items.refused b) = refused b

module _ {q : List ℕ} {p : ℕ} (i : Inside q p (length q)) where
  -- the question ends where a count should stand
  counted_end : {A : Type 0} {T : A → ℕ → ℕ → Type 0} (m : Reader A) → length q ≤ p
      → Leaves q (length q) T (Err (bad_shape p)) (counted m p (from q p (length q)))
  unfolding counted
  counted_end m h = leaves_at (word_end _ q p (length q) h) (refused i.low)

  pub section_end : {f : Fault} (h : Holds) → (length q ≤ p) × (f ≡ bad_shape p) → SectionRead q p h (Err f)
  unfolding empty
  section_end Nothing l = leaves_fault (within_end i 0 0 l)
  section_end Entries l = rw l.1 (counted_end _ l.0)
  section_end Expr l = rw l.1 (counted_end _ l.0)
  section_end Ty l = rw l.1 (counted_end _ l.0)
  section_end ETVar l = rw l.1 (counted_end _ l.0)

  -- the count n stands there
  module _ {n : ℕ} (x : Word q p (length q) n) where
    counted_by : {A : Type 0} (m : Reader A) → counted m p (from q p (length q))
        ≡ pick (leb n (length (from q (p + 1) (length q)))) (whole n m) (definition.bad_shape p) (p + 1) (from q (p + 1) (length q))
    unfolding counted
    counted_by m = word_is _ (le_refl (length q)) x

    room : length (from q (p + 1) (length q)) ≡ length q - (p + 1)
    room = length-slice (p + 1) (length q) q (le_refl (length q))

    -- the count overruns the question
    counted_over : {A : Type 0} {T : A → ℕ → ℕ → Type 0} (m : Reader A) → length q - (p + 1) < n
        → Leaves q (length q) T (Err (bad_shape p)) (counted m p (from q p (length q)))
    unfolding definition.bad_shape
    counted_over m h =
        let f : leb n (length (from q (p + 1) (length q))) ≡ false = lt-leb n _ (rw room h) in
        leaves_at (counted_by m ∙ ap (λ (k : Reader _). k (p + 1) (from q (p + 1) (length q))) (pick_false _ _ f)) (refused i.low)

    pub section_over : {f : Fault} (h : Holds) → length q - (p + 1) < n → f ≡ bad_shape p → SectionRead q p h (Err f)
    unfolding empty
    section_over Nothing h k = rw k (leaves_fault (within_none i 0 0 x (λ l m. omega arith)))
    section_over Entries h k = rw k (counted_over _ h)
    section_over Expr h k = rw k (counted_over _ h)
    section_over Ty h k = rw k (counted_over _ h)
    section_over ETVar h k = rw k (counted_over _ h)

    -- ## An empty section

    pub section_empty : n ≡ 0 → SectionRead q p Nothing (Ok (record { value = 0; past = p + 1 }))
    unfolding empty
    section_empty h = go (within_past i 0 0 x (omega arith) (omega arith))
      where
        go : {o : Read ℕ} {S : ℕ → ℕ → Type 0} → Reads q (length q) S (Ok (p + 1)) o
            → Leaves q (length q) (ContentAt q p Nothing) (Ok (record { value = 0; past = p + 1 })) o
        go (items.past s k) = past nothing_at k

    pub section_full : {f : Fault} → (n ≡ 0 → ⊥) → f ≡ bad_shape p → SectionRead q p Nothing (Err f)
    unfolding empty
    section_full h k = rw k (leaves_fault (within_none i 0 0 x (λ l m. h (omega arith))))

    -- ## What takes up the words

    module _ (l : n ≤ length q - (p + 1)) where
      -- where they end
      abbrev e : ℕ
      e = p + 1 + n

      fits : e ≤ length q
      fits = omega (arith, x.inside)

      -- what a section says of what a reader said of its words
      closed : {A : Type 0} → Read A → Read A
      closed o = next (next o (λ a. ◌>>=◌ end (λ u. give a))) (λ a k vs. got a k (from q e (length q)))

      counted_is : {A : Type 0} (m : Reader A) → counted m p (from q p (length q)) ≡ closed (m (p + 1) (from q (p + 1) e))
      unfolding whole closed ◌>>=◌
      counted_is m =
          let f : leb n (length (from q (p + 1) (length q))) ≡ true = le-leb n _ (rw room l) in
          counted_by m
          ∙ ap (λ (k : Reader _). k (p + 1) (from q (p + 1) (length q))) (pick_true _ _ f)
          ∙ rw (from_take q (p + 1) n (omega (arith, x.inside)), from_drop q (p + 1) n)

      closed_got : {A : Type 0} (a : A) (m : ℕ) → m ≡ e → closed (got a m (from q m e)) ≡ got a m (from q m (length q))
      unfolding closed next ◌>>=◌ give
      closed_got a m h = rw (end_is q m e (omega arith)) (ap (λ k. got a m (from q k (length q))) (sym h))

      closed_more : {A : Type 0} (a : A) (m : ℕ) → m < e → closed (got a m (from q m e)) ≡ fault 4 m
      unfolding closed next ◌>>=◌
      closed_more a m h = rw (end_more q m e h fits)

      -- an item that was read, or a fault in it
      counted_item : {A : Type 0} {S : A → ℕ → Type 0} {T : A → ℕ → ℕ → Type 0} {j : ℕ} {r : Result Part Fault} (m : Reader A)
          → ((a : A) → S a e → T a (p + 1) e) → Reads q e S (Ok j) (m (p + 1) (from q (p + 1) e)) → Whole (p + 1) e j r
          → Leaves q (length q) T r (counted m p (from q p (length q)))
      unfolding closed next
      counted_item {A} {S} {T} m g y z = leaves_at (counted_is m) (go y z)
        where
          go : {j : ℕ} {r : Result Part Fault} {o : Read A} → Reads q e S (Ok j) o → Whole (p + 1) e j r → Leaves q (length q) T r (closed o)
          go (items.past {a = a} s k) exact = leaves_at (closed_got a e refl) (past (g a s) fits)
          go (items.past {a = a} {m = j} s k) (early ne) = leaves_at (closed_more a j (omega arith)) (refused (le_trans k fits))

      counted_fault : {A : Type 0} {S : A → ℕ → Type 0} {T : A → ℕ → ℕ → Type 0} {f : Fault} (m : Reader A)
          → Reads q e S (Err f) (m (p + 1) (from q (p + 1) e)) → Leaves q (length q) T (Err f) (counted m p (from q p (length q)))
      unfolding closed next
      counted_fault {A} {S} {T} {f} m y = leaves_at (counted_is m) (go y)
        where
          go : {o : Read A} → Reads q e S (Err f) o → Leaves q (length q) T (Err f) (closed o)
          go (items.refused b) = refused (le_trans b fits)

      module _ {j : ℕ} {r : Result Part Fault} (w : Whole (p + 1) e j r) where
        pub section_expr : items.ExprRead q (p + 1) e (Ok j) → SectionRead q p Expr r
        section_expr y = counted_item _ (λ f s. expr_at s.at) y w

        pub section_type : items.TypeRead q (p + 1) e (Ok j) → SectionRead q p Ty r
        section_type y = counted_item _ (λ A s. ty_at s.at) y w

        pub section_unknown : UnknownRead q (p + 1) e (Ok j) → SectionRead q p ETVar r
        section_unknown y = counted_item _ (λ a s. sections.etvar_at s.at) y w

      pub expr_fault : {f : Fault} → items.ExprRead q (p + 1) e (Err f) → SectionRead q p Expr (Err f)
      expr_fault y = counted_fault _ y

      pub type_fault : {f : Fault} → items.TypeRead q (p + 1) e (Err f) → SectionRead q p Ty (Err f)
      type_fault y = counted_fault _ y

      pub unknown_fault : {f : Fault} → UnknownRead q (p + 1) e (Err f) → SectionRead q p ETVar (Err f)
      unknown_fault y = counted_fault _ y

      -- entries
      pub section_entries : {r : Result Part Fault} → ContextRead q (p + 1) e r → SectionRead q p Entries r
      unfolding closed next
      section_entries y = leaves_at (counted_is (context written)) (go y)
        where
          go : {r : Result Part Fault} {o : Read _} → Leaves q e (ContextTo q (p + 1) e) r o → Leaves q (length q) (ContentAt q p Entries) r (closed o)
          go (past {a = Γ} {x = v} t k) = leaves_at (closed_got Γ v.past t.whole) (past (entries_at t.list) (omega arith))
          go (refused b) = refused (le_trans b fits)
