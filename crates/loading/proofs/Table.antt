-- Laws of the table of ends.
use Prim.Native.Nat.{ℕ, suc, ◌+◌, ◌%◌, ◌≤◌, ◌<◌}
use mathlib.Core.Path.{◌≡◌, refl, sym, ◌∙◌, ap}
use mathlib.Core.Logic.{inl, inr}
use mathlib.Core.Bool.{true, ◌&&◌}
use mathlib.Core.List.{List, [], ◌∷◌}
use native.Mathlib.Nat.{le_refl, le_antisymm, lt_of_not-le}
use native.Mathlib.Decide.{dec_le}
use native.Mathlib.Omega.{arith}
use lib.ListN.{length, get_or, set}
use lib.Seq.{get_or-set_same, get_or-set_other}
use lib.Dec.{leb}
use mir.Val.{has_key}
use borrow.Author.Tests.{le-leb, lt-leb}
use types.Run.{OneOf}
use Rattle.definition.specs.Syntax.{pick, Ty, int, bool, var, etvar, arrow, forall}
use Rattle.definition.specs.Types.{is_mono}
use Rattle.layout.specs.Sizes.{ENDS, FLOOR, MONO}
use Rattle.layout.specs.Monotypes.{with_mono, past}
use Rattle.layout.specs.Places.{size, expr_size, TyAt, int_at, bool_at, var_at, etvar_at, arrow_at, forall_at, evar_at, app_at, abs_at, tapp_at, tabs_at, ann_at, lit_int_at, lit_bool_at, let_in_at, if_then_else_at, bin_op_at}
use Rattle.layout.specs.Words.{Keep, Put2}
use Rattle.layout.specs.Denotes.{Base}
use Rattle.layout.proofs.Monotypes.{with_yes, with_no, kept_number, kept_mono}
use Rattle.layout.proofs.Places.{end_small, ty_code_lem, expr_code_lem}
use Rattle.layout.proofs.Words.{keep_trans, keep_less}
use Rattle.loading.specs.Table.{Spans, ty_spans, expr_spans, Table, ReadyAt, RowAt, PastIs, RowIs, Laid}

-- ## What an item is made of

-- k items stand one after the other from p up to m
pub data ItemsTo (q : List ℕ) : ℕ → ℕ → ℕ → Type 0 where
  done : {p m : ℕ} → p ≡ m → ItemsTo q p 0 m
  item : {p n k m : ℕ} → Spans q p n → ItemsTo q n k m → ItemsTo q p (suc k) m

-- by an item's code: how many words it has before its own items, how many items, and its monotype mark: 1 for a type without parts, 2 for an
-- Arrow, which has it from its parts, else 0, none. One word, no item and no mark for codes that are not listed
abbrev pub Shape : Type 0
Shape = ℕ × ℕ × ℕ

abbrev pub Groups : Type 0
Groups = List (List ℕ × Shape)

unfoldable pub look : ℕ → Groups → Shape
look w [] = (1, 0, 0)
look w (g ∷ gs) = pick (has_key g.0 w) g.1 (look w gs)

-- those that `other_row` tells apart, and all
unfoldable pub others : Groups
others =
    (5 ∷ [], (1, 2, 2))
    ∷ (16 ∷ 23 ∷ [], (2, 0, 0))
    ∷ (22 ∷ [], (3, 0, 0))
    ∷ (6 ∷ 20 ∷ [], (2, 1, 0))
    ∷ (17 ∷ 19 ∷ 21 ∷ [], (1, 2, 0))
    ∷ (18 ∷ 24 ∷ 26 ∷ [], (2, 2, 0))
    ∷ (25 ∷ [], (1, 3, 0))
    ∷ []

unfoldable pub table : Groups
table = (1 ∷ 2 ∷ [], (1, 0, 1)) ∷ (3 ∷ 4 ∷ [], (2, 0, 1)) ∷ others

one : {q : List ℕ} {p m : ℕ} → Spans q p m → ItemsTo q p 1 m
one s = item s (done refl)

two : {q : List ℕ} {p i m : ℕ} → Spans q p i → Spans q i m → ItemsTo q p 2 m
two s t = item s (one t)

-- what an item is made of, by the word at its place
inner : {q : List ℕ} {p m : ℕ} → Spans q p m → ItemsTo q (p + (look (get_or q p 0) table).0) (look (get_or q p 0) table).1 m
unfolding look table others pick
inner (ty_spans (int_at c) t) = rw c.is (done t)
inner (ty_spans (bool_at c) t) = rw c.is (done t)
inner (ty_spans (var_at c n) t) = rw c.is (done t)
inner (ty_spans (etvar_at c n) t) = rw c.is (done t)
inner {q} {m = m} (ty_spans (arrow_at {m = i} c d e f) t) =
    let s : Spans q i m = ty_spans f (omega arith) in
    rw c.is (two (ty_spans d e) s)
inner {q} {p} {m} (ty_spans (forall_at c n d) t) = let s : Spans q (p + 2) m = ty_spans d (omega arith) in rw c.is (one s)
inner (expr_spans (evar_at c n) t) = rw c.is (done t)
inner {q} {m = m} (expr_spans (app_at {m = i} c d e f) t) =
    let s : Spans q i m = expr_spans f (omega arith) in
    rw c.is (two (expr_spans d e) s)
inner {q} {m = m} (expr_spans (abs_at {m = i} c n d e f) t) =
    let s : Spans q i m = expr_spans f (omega arith) in
    rw c.is (two (ty_spans d e) s)
inner {q} {m = m} (expr_spans (tapp_at {m = i} c d e f) t) =
    let s : Spans q i m = ty_spans f (omega arith) in
    rw c.is (two (expr_spans d e) s)
inner {q} {p} {m} (expr_spans (tabs_at c n d) t) = let s : Spans q (p + 2) m = expr_spans d (omega arith) in rw c.is (one s)
inner {q} {m = m} (expr_spans (ann_at {m = i} c d e f) t) =
    let s : Spans q i m = ty_spans f (omega arith) in
    rw c.is (two (expr_spans d e) s)
inner (expr_spans (lit_int_at c n k) t) = rw c.is (done t)
inner (expr_spans (lit_bool_at c n) t) = rw c.is (done t)
inner {q} {m = m} (expr_spans (let_in_at {m = i} c n d e f) t) =
    let s : Spans q i m = expr_spans f (omega arith) in
    rw c.is (two (expr_spans d e) s)
inner {q} {m = m} (expr_spans (if_then_else_at {m = i} {k = j} c d e f g h) t) =
    let s : Spans q j m = expr_spans h (omega arith) in
    rw c.is (item (expr_spans d e) (two (expr_spans f g) s))
inner {q} {m = m} (expr_spans (bin_op_at {m = i} c n l k d e f) t) =
    let s : Spans q i m = expr_spans f (omega arith) in
    rw c.is (two (expr_spans d e) s)

-- ## By the arms of a `match`

-- what holds of each key holds of a word that is one of them
abbrev pub EachKey : (ℕ → Type 0) → List ℕ → Type 0
EachKey P [] = Unit {0}
EachKey P (k ∷ ks) = P k × EachKey P ks

pub each : {w : ℕ} (P : ℕ → Type 0) (ks : List ℕ) → EachKey P ks → OneOf ks w → P w
each P [] h e = absurd e
each P (k ∷ []) h e = rw e h.0
each P (k ∷ (k' ∷ ks)) h (inl e) = rw e h.0
each P (k ∷ (k' ∷ ks)) h (inr r) = each P (k' ∷ ks) h.1 r

-- what holds of two words in a row holds of one that is between them
next_to : {w : ℕ} (P : ℕ → Type 0) (k : ℕ) → P k → P (1 + k) → k ≤ w → w ≤ 1 + k → P w
next_to {w} P k x y l h = elim (dec_le w k) [ yes i ↦ rw (le_antisymm i l) x | no i ↦ let e : w ≡ 1 + k = omega arith in rw e y ]

-- ## By the table

spans_within : {q : List ℕ} {p m : ℕ} → Spans q p m → (p < length q) × (p ≤ m)
spans_within (ty_spans d t) = ((ty_code_lem d).within, omega arith)
spans_within (expr_spans d t) = ((expr_code_lem d).within, omega arith)

-- whether a type is a monotype, by the word at its place; of an Arrow that does not tell
mono_by_shape : {q : List ℕ} {p : ℕ} {A : Ty} (k : ℕ) → TyAt q p A → (look (get_or q p 0) table).2 ≡ k → (k ≡ 2 → ⊥) → leb 1 k ≡ is_mono A
unfolding look table others pick is_mono
mono_by_shape k (int_at c) e f = rw (← e, c.is) refl
mono_by_shape k (bool_at c) e f = rw (← e, c.is) refl
mono_by_shape k (var_at c n) e f = rw (← e, c.is) refl
mono_by_shape k (etvar_at c n) e f = rw (← e, c.is) refl
mono_by_shape k (arrow_at c d g h) e f = absurd (f (sym e ∙ rw c.is refl))
mono_by_shape k (forall_at c n d) e f = rw (← e, c.is) refl

pub past_row : {q w : List ℕ} {i v : ℕ} → RowAt q w i v → PastIs q w i (v % MONO)
past_row x = record { is = λ l. ap (◌% MONO) (x.is l); fits = omega arith }

module _ {q w : List ℕ} {p : ℕ} (ready : ReadyAt q w p) where
  step : {i k m r : ℕ} → p + 1 ≤ i → ItemsTo q i (suc k) m → PastIs q w i r → (p + 1 ≤ r) × ItemsTo q r k m
  step {i} {k} {m} {r} h (item {n = n} s x) y =
      let b = spans_within s in
      let e : r ≡ n = y.is b.0 ∙ ready.table.ends i n h s in
      (omega arith, rw e x)

  stop : {i m : ℕ} → ItemsTo q i 0 m → i ≡ m
  stop (done e) = e

  -- the place past what stands at p
  abbrev EndsAt : ℕ → Type 0
  EndsAt e = (m : ℕ) → Spans q p m → e ≡ m

  module _ (n : ℕ) (some : 1 ≤ n) {k : ℕ} where
    ends_none : look (get_or q p 0) table ≡ (n, 0, k) → EndsAt (p + n)
    ends_none e m s = stop (rw e at (inner s))

    module _ {r : ℕ} (x : PastIs q w (p + n) r) where
      ends_one : look (get_or q p 0) table ≡ (n, 1, k) → EndsAt r
      ends_one e m s = stop (step (omega arith) (rw e at (inner s)) x).1

      ends_two : {r' : ℕ} → PastIs q w r r' → look (get_or q p 0) table ≡ (n, 2, k) → EndsAt r'
      ends_two y e m s = let a = step (omega arith) (rw e at (inner s)) x in stop (step a.0 a.1 y).1

      ends_three : {r' r'' : ℕ} → PastIs q w r r' → PastIs q w r' r'' → look (get_or q p 0) table ≡ (n, 3, k) → EndsAt r''
      ends_three y z e m s = let a = step (omega arith) (rw e at (inner s)) x in let b = step a.0 a.1 y in stop (step b.0 b.1 z).1

  -- the table's word for an item that is no type, or a Forall; and for a type without parts
  plain : {n k e : ℕ} → look (get_or q p 0) table ≡ (n, k, 0) → e < MONO → EndsAt e → RowIs q p e
  plain {e = e} f l x = record {
    end = λ m s. let y : e % MONO ≡ e = omega arith in y ∙ x m s;
    type = λ A d. x (p + size A) (ty_spans d refl) ∙ with_no (p + size A) (sym (mono_by_shape 0 d (ap (λ (z : Shape). z.2) f) (λ i. omega arith)));
    fits = omega arith;
  }

  row_leaf : (n : ℕ) → look (get_or q p 0) table ≡ (n, 0, 1) → 1 ≤ n → n ≤ 2 → RowIs q p (p + n + MONO)
  row_leaf n f some few = record {
    end = λ m s. let y : (p + n + MONO) % MONO ≡ p + n = omega (arith, ready.within, ready.sized.small) in y ∙ ends_none n some f m s;
    type = λ A d.
        ap (◌+ MONO) (ends_none n some f (p + size A) (ty_spans d refl))
        ∙ with_yes (p + size A) (sym (mono_by_shape 1 d (ap (λ (z : Shape). z.2) f) (λ i. omega arith)));
    fits = omega (arith, ready.within, ready.sized.small);
  }

  pub base_row : 1 ≤ get_or q p 0 → get_or q p 0 ≤ 2 → RowIs q p (p + 1 + MONO)
  unfolding look table others pick
  base_row l h = row_leaf 1 (next_to (λ w. look w table ≡ (1, 0, 1)) 1 refl refl l h) (omega arith) (omega arith)

  pub name_row : 3 ≤ get_or q p 0 → get_or q p 0 ≤ 4 → RowIs q p (p + 2 + MONO)
  unfolding look table others pick
  name_row l h = row_leaf 2 (next_to (λ w. look w table ≡ (2, 0, 1)) 3 refl refl l h) (omega arith) (omega arith)

  module _ (n : ℕ) (some : 1 ≤ n) where
    module _ {r : ℕ} (x : PastIs q w (p + n) r) where
      pub row_one : look (get_or q p 0) table ≡ (n, 1, 0) → RowIs q p r
      row_one f = plain f x.fits (ends_one n some x f)

      pub row_two : {r' : ℕ} → PastIs q w r r' → look (get_or q p 0) table ≡ (n, 2, 0) → RowIs q p r'
      row_two y f = plain f y.fits (ends_two n some x y f)

      pub row_three : {r' r'' : ℕ} → PastIs q w r r' → PastIs q w r' r'' → look (get_or q p 0) table ≡ (n, 3, 0) → RowIs q p r''
      row_three y z f = plain f z.fits (ends_three n some x y z f)

  -- ## An Arrow's word, by its parts'

  module _ (five : get_or q p 0 ≡ 5) {l r : ℕ} (left : RowAt q w (p + 1) l) (right : RowAt q w (l % MONO) r) where
    arrow_ends : EndsAt (r % MONO)
    unfolding look table others pick
    arrow_ends = ends_two 1 (omega arith) {k = 2} (past_row left) (past_row right) (rw five refl)

    -- what is known of the parts of the type at p
    record Parts (A : Ty) : Type 0 where
      B : Ty
      C : Ty
      both : is_mono A ≡ (is_mono B && is_mono C)
      first : leb MONO l ≡ is_mono B
      second : r ≡ with_mono (p + size A) (is_mono C)
      small : p + size A < MONO

    parts : (A : Ty) → TyAt q p A → Parts A
    unfolding is_mono
    parts (arrow B C) (arrow_at {m = m} c d e f) =
        let k : l % MONO ≡ m = (past_row left).is (ty_code_lem d).within ∙ ready.table.ends (p + 1) m (omega arith) (ty_spans d e) in
        let x : l ≡ with_mono (p + 1 + size B) (is_mono B) = left.is (ty_code_lem d).within ∙ ready.table.types (p + 1) B (omega arith) d in
        let z = rw k at right in
        let y : r ≡ with_mono (m + size C) (is_mono C) = z.is (ty_code_lem f).within ∙ ready.table.types m C (omega arith) f in
        let s : m + size C ≡ p + size (arrow B C) = omega arith in
        record { B = B; C = C; both = refl; first = kept_mono _ _ x (end_small d); second = rw s at y; small = omega (arith, end_small f) }
    parts int (int_at c) = absurd (omega (arith, c.is))
    parts bool (bool_at c) = absurd (omega (arith, c.is))
    parts (var v) (var_at c n) = absurd (omega (arith, c.is))
    parts (etvar v) (etvar_at c n) = absurd (omega (arith, c.is))
    parts (forall v B) (forall_at c n d) = absurd (omega (arith, c.is))

    pub arrow_marked : MONO ≤ l → RowIs q p r
    arrow_marked h = record {
      end = arrow_ends;
      type = λ A d.
          let u = parts A d in
          u.second ∙ ap (with_mono (p + size A)) (sym (u.both ∙ ap (◌&& is_mono u.C) (sym u.first ∙ le-leb MONO l h)));
      fits = right.fits;
    }

    pub arrow_plain : l < MONO → RowIs q p (r % MONO)
    arrow_plain h = record {
      end = λ m s. let y : r % MONO % MONO ≡ r % MONO = omega arith in y ∙ arrow_ends m s;
      type = λ A d.
          let u = parts A d in
          kept_number (p + size A) (is_mono u.C) u.second u.small
          ∙ with_no (p + size A) (u.both ∙ ap (◌&& is_mono u.C) (sym u.first ∙ lt-leb MONO l h));
      fits = omega arith;
    }

-- ## Filling the table

-- one place more
pub table_more : {q w : List ℕ} {i v : ℕ} → ENDS + i < length w → RowIs q i v → Table q w (i + 1) → Table q (set w (ENDS + i) v) i
table_more {q} {w} {i} {v} l x t = record {
  ends = λ j m h s. elim (dec_le j i) [ yes k ↦ end_here j m (le_antisymm k h) s | no k ↦ end_there j m (lt_of_not-le k) s ];
  types = λ j A h d. elim (dec_le j i) [ yes k ↦ type_here j A (le_antisymm k h) d | no k ↦ type_there j A (lt_of_not-le k) d ];
}
  where
    w₁ : List ℕ
    w₁ = set w (ENDS + i) v

    put : get_or w₁ (ENDS + i) 0 ≡ v
    put = get_or-set_same w (ENDS + i) v 0 l

    stays : (j : ℕ) → i < j → get_or w₁ (ENDS + j) 0 ≡ get_or w (ENDS + j) 0
    stays j k = get_or-set_other w (ENDS + i) (ENDS + j) v 0 (omega arith)

    end_here : (j m : ℕ) → j ≡ i → Spans q j m → past w₁ j ≡ m
    end_here j m k s = rw k (ap (◌% MONO) put ∙ x.end m (rw k at s))

    end_there : (j m : ℕ) → i < j → Spans q j m → past w₁ j ≡ m
    end_there j m k s = ap (◌% MONO) (stays j k) ∙ t.ends j m (omega arith) s

    type_here : (j : ℕ) (A : Ty) → j ≡ i → TyAt q j A → get_or w₁ (ENDS + j) 0 ≡ with_mono (j + size A) (is_mono A)
    type_here j A k d = rw k (put ∙ x.type A (rw k at d))

    type_there : (j : ℕ) (A : Ty) → i < j → TyAt q j A → get_or w₁ (ENDS + j) 0 ≡ with_mono (j + size A) (is_mono A)
    type_there j A k d = stays j k ∙ t.types j A (omega arith) d

pub table_at : {q w : List ℕ} {p p' : ℕ} → p ≡ p' → Table q w p → Table q w p'
table_at e t = rw e at t

pub laid : {q w w₁ w' : List ℕ} → Put2 w w₁ 0 (with_mono 1 true) (with_mono 2 true) → Keep ENDS FLOOR w₁ w' → Table q w' 0 → Laid q w w'
laid {q} p k t =
    let b : Base q _ FLOOR = record {
      floor = le_refl FLOOR;
      int_is = sym (k.below 0 (omega arith)) ∙ p.w0;
      bool_is = sym (k.below 1 (omega arith)) ∙ p.w1;
      end_ty = λ i A d. t.types i A (omega arith) d;
      past_expr = λ i f d. t.ends i (i + expr_size f) (omega arith) (expr_spans d refl);
    } in
    record { base = b; keep = keep_trans (keep_less (omega arith) (omega arith) p.keep) (keep_less (omega arith) (le_refl FLOOR) k) }
