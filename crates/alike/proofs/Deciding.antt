-- Whether two lists of words are alike under some pairing is decided by a test that computes, which Examples uses. A question's labels are
-- read off its words, and no others fit; what is left is to compare word by word and to look that the names pair one to one.
use mathlib.Core.Path.{◌≡◌, refl, ap}
use Prim.Native.Nat.{ℕ}
use mathlib.Core.Bool.{Bool, true, false, ◌&&◌, beq}
use mathlib.Core.List.{List, [], ◌∷◌, ◌++◌, append-nil, append_assoc}
use lib.ListN.{length, take, drop}
use lib.Seq.{take_at, drop_at}
use lib.Dec.{T, leb, ltb, eqb, leb→le, ltb→lt, eqb→eq, le→leb, lt→ltb, eqb_refl}
use mir.Facts.{and_yes, yes_and}
use Rattle.definition.specs.Syntax.{pick}
use Rattle.definition.specs.Question.{Read, got, fault, Question, read_question, question_computes}
use Rattle.alike.specs.Alike.{Label, the, variable, type_name, half, truth, section, IsTy, IsExpr, IsEntry, IsCtx, IsQuestion, OneToOne, Pairing, InQuestions, Each, none, more, AlikeQuestions, WellFormed}
use Rattle.alike.proofs.Words.{length_l, InTwo, parts, split_e}
use Rattle.alike.proofs.Demand3.{well_formed}
use Rattle.alike.proofs.WellFormed.{alike_itself}

-- ## A question's labels, from its words

-- what comes next: one word under a label, an operator, or an item; entries go on to the section's end
data Next : Type 0 where
  word : Label → Next
  operator type expression entries : Next

row : ℕ → List (ℕ × List Next) → List Next
row w [] = []
row w (r ∷ rows) = pick (eqb w r.0) r.1 (row w rows)

abbrev x : Next
x = word variable

abbrev a : Next
a = word type_name

-- what a word brings with it: document 01's table of types, expressions and entries
after : Next → ℕ → List Next
after (word k) w = []
after operator w = []
after type w = row w ((3, a ∷ []) ∷ (4, a ∷ []) ∷ (5, type ∷ type ∷ []) ∷ (6, a ∷ type ∷ []) ∷ [])
after expression w =
    row w
    ((16, x ∷ [])
    ∷ (17, expression ∷ expression ∷ [])
    ∷ (18, x ∷ type ∷ expression ∷ [])
    ∷ (19, expression ∷ type ∷ [])
    ∷ (20, a ∷ expression ∷ [])
    ∷ (21, expression ∷ type ∷ [])
    ∷ (22, word half ∷ word half ∷ [])
    ∷ (23, word truth ∷ [])
    ∷ (24, x ∷ expression ∷ expression ∷ [])
    ∷ (25, expression ∷ expression ∷ expression ∷ [])
    ∷ (26, operator ∷ expression ∷ expression ∷ [])
    ∷ [])
after entries w = row w ((32, x ∷ type ∷ []) ∷ (33, a ∷ []) ∷ (34, a ∷ []) ∷ (35, a ∷ type ∷ []) ∷ (36, a ∷ []) ∷ []) ++ entries ∷ []

label_of : Next → ℕ → Label
label_of (word k) w = k
label_of operator w = the w
label_of type w = the w
label_of expression w = the w
label_of entries w = the w

labels : List ℕ → List Next → List Label
labels [] is = []
labels (w ∷ ws) [] = []
labels (w ∷ ws) (i ∷ is) = label_of i w ∷ labels ws (after i w ++ is)

in_sections : List (List Next) → List ℕ → List Label
in_sections [] ws = []
in_sections (is ∷ iss) [] = []
in_sections (is ∷ iss) (n ∷ ws) = the n ∷ labels (take n ws) is ++ in_sections iss (drop n ws)

-- "sections filled", by the kind
filled : ℕ → List (List Next)
filled k =
    pick (eqb k 1) ((entries ∷ []) ∷ (expression ∷ []) ∷ [] ∷ [] ∷ [])
    (pick (eqb k 2) ((entries ∷ []) ∷ (expression ∷ []) ∷ [] ∷ (type ∷ []) ∷ [])
    (pick (eqb k 3) ((entries ∷ []) ∷ (expression ∷ []) ∷ (type ∷ []) ∷ [] ∷ [])
    (pick (eqb k 7) ([] ∷ (expression ∷ []) ∷ [] ∷ [] ∷ [])
    ((entries ∷ []) ∷ [] ∷ (type ∷ []) ∷ (type ∷ []) ∷ []))))

-- of words that are no question, some list or other
pub labels_of : List ℕ → List Label
labels_of [] = []
labels_of (k ∷ []) = []
labels_of (k ∷ m ∷ ws) = the k ∷ the m ∷ in_sections (filled k) ws

-- ## No others fit

-- words under the labels s are given s
record Labelled (P : Pairing) (is : List Next) (s : List Label) : Type 0 where
  at : {u u' : List ℕ} → Each (InQuestions P) s u u' → labels u is ≡ s

record Sectioned (P : Pairing) (iss : List (List Next)) (s : List Label) : Type 0 where
  at : {u u' : List ℕ} → Each (InQuestions P) s u u' → in_sections iss u ≡ s

module _ {P : Pairing} where
  none_l : {is : List Next} → Labelled P is []
  unfolding labels
  none_l {is} = record { at = by }
    where
      by : {u u' : List ℕ} → Each (InQuestions P) [] u u' → labels u is ≡ []
      by none = refl

  word_l : {k : Label} {is : List Next} {s : List Label} → Labelled P is s → Labelled P (word k ∷ is) (k ∷ s)
  unfolding labels label_of after
  word_l {k} {is} {s} h = record { at = by }
    where
      by : {u u' : List ℕ} → Each (InQuestions P) (k ∷ s) u u' → labels u (word k ∷ is) ≡ k ∷ s
      by (more w e) = ap (λ t. k ∷ t) (h.at e)

  code_l : {i : Next} {n : ℕ} {is : List Next} {s : List Label} → label_of i n ≡ the n → Labelled P (after i n ++ is) s
      → Labelled P (i ∷ is) (the n ∷ s)
  unfolding labels
  code_l {i} {n} {is} {s} l h = record { at = by }
    where
      by : {u u' : List ℕ} → Each (InQuestions P) (the n ∷ s) u u' → labels u (i ∷ is) ≡ the n ∷ s
      by (more InQuestions.same e) = rw (l, h.at e)

  -- items one after the other
  two_l : {is : List Next} (A B s : List Label) → Labelled P is (A ++ (B ++ s)) → Labelled P is ((A ++ B) ++ s)
  two_l A B s h = rw (append_assoc A B s) h

  ty_l : {A s : List Label} {is : List Next} → IsTy A → Labelled P is s → Labelled P (type ∷ is) (A ++ s)
  unfolding after row pick label_of
  ty_l IsTy.int h = code_l refl h
  ty_l IsTy.bool h = code_l refl h
  ty_l IsTy.var h = code_l refl (word_l h)
  ty_l IsTy.etvar h = code_l refl (word_l h)
  ty_l {s = s} (IsTy.arrow {A} {B} p q) h = code_l refl (two_l A B s (ty_l p (ty_l q h)))
  ty_l (IsTy.forall p) h = code_l refl (word_l (ty_l p h))

  expr_l : {e s : List Label} {is : List Next} → IsExpr e → Labelled P is s → Labelled P (expression ∷ is) (e ++ s)
  unfolding after row pick label_of
  expr_l IsExpr.evar h = code_l refl (word_l h)
  expr_l {s = s} (IsExpr.app {e} {f} p q) h = code_l refl (two_l e f s (expr_l p (expr_l q h)))
  expr_l {s = s} (IsExpr.abs {A} {e} p q) h = code_l refl (word_l (two_l A e s (ty_l p (expr_l q h))))
  expr_l {s = s} (IsExpr.tapp {e} {A} p q) h = code_l refl (two_l e A s (expr_l p (ty_l q h)))
  expr_l (IsExpr.tabs p) h = code_l refl (word_l (expr_l p h))
  expr_l {s = s} (IsExpr.ann {e} {A} p q) h = code_l refl (two_l e A s (expr_l p (ty_l q h)))
  expr_l IsExpr.lit_int h = code_l refl (word_l (word_l h))
  expr_l IsExpr.lit_bool h = code_l refl (word_l h)
  expr_l {s = s} (IsExpr.let_in {e} {f} p q) h = code_l refl (word_l (two_l e f s (expr_l p (expr_l q h))))
  expr_l {s = s} (IsExpr.if_then_else {e} {f} {g} p q r) h = code_l refl (two_l e (f ++ g) s (expr_l p (two_l f g s (expr_l q (expr_l r h)))))
  expr_l {s = s} (IsExpr.bin_op {e = e} {f = f} l m p q) h = code_l refl (code_l refl (two_l e f s (expr_l p (expr_l q h))))

  entry_l : {e s : List Label} → IsEntry e → Labelled P (entries ∷ []) s → Labelled P (entries ∷ []) (e ++ s)
  unfolding after row pick label_of
  entry_l (IsEntry.var_bnd p) h = code_l refl (word_l (ty_l p h))
  entry_l IsEntry.tvar_bnd h = code_l refl (word_l h)
  entry_l IsEntry.etvar_bnd h = code_l refl (word_l h)
  entry_l (IsEntry.setvar_bnd p) h = code_l refl (word_l (ty_l p h))
  entry_l IsEntry.mark h = code_l refl (word_l h)

  ctx_l : {Γ : List Label} → IsCtx Γ → Labelled P (entries ∷ []) Γ
  ctx_l IsCtx.no_entry = none_l
  ctx_l (IsCtx.entry e c) = entry_l e (ctx_l c)

  -- the one item of a section
  one_ty : {A : List Label} → IsTy A → Labelled P (type ∷ []) A
  one_ty {A} p = rw append-nil at (ty_l {is = []} p none_l)

  one_expr : {e : List Label} → IsExpr e → Labelled P (expression ∷ []) e
  one_expr {e} p = rw append-nil at (expr_l {is = []} p none_l)

  no_sections : Sectioned P [] []
  unfolding in_sections
  no_sections = record { at = λ e. refl }

  section_l : {is : List Next} {iss : List (List Next)} {s t : List Label} → Labelled P is s → Sectioned P iss t
      → Sectioned P (is ∷ iss) (section s ++ t)
  unfolding in_sections
  section_l {is} {iss} {s} {t} h g = record { at = by }
    where
      apart : {u u' : List ℕ} → InTwo (InQuestions P) s t u u' → in_sections (is ∷ iss) (length s ∷ u) ≡ section s ++ t
      apart (parts {u = u} {v = v} p q) = rw (take_at u v _ (length_l p), drop_at u v _ (length_l p), h.at p, g.at q)

      by : {u u' : List ℕ} → Each (InQuestions P) (section s ++ t) u u' → in_sections (is ∷ iss) u ≡ section s ++ t
      by (more InQuestions.same e) = apart (split_e s e)

  last_l : {is : List Next} {s : List Label} → Labelled P is s → Sectioned P (is ∷ []) (section s)
  last_l {s = s} h = rw append-nil at (section_l h no_sections)

  -- an empty section
  empty_l : {iss : List (List Next)} {t : List Label} → Sectioned P iss t → Sectioned P ([] ∷ iss) (the 0 ∷ t)
  empty_l h = section_l none_l h

  ask_l : {k m : ℕ} {s : List Label} {ws ws' : List ℕ} → Sectioned P (filled k) s → Each (InQuestions P) (the k ∷ the m ∷ s) ws ws'
      → labels_of ws ≡ the k ∷ the m ∷ s
  unfolding labels_of
  ask_l {k} {m} h (more InQuestions.same (more InQuestions.same e)) = ap (λ t. the k ∷ the m ∷ t) (h.at e)

  -- a question has one list of labels
  pub labelled : {s : List Label} {ws ws' : List ℕ} → IsQuestion s → Each (InQuestions P) s ws ws' → labels_of ws ≡ s
  unfolding filled pick
  labelled (IsQuestion.infer m c e) = ask_l (section_l (ctx_l c) (section_l (one_expr e) (empty_l (last_l none_l))))
  labelled (IsQuestion.check m c e r) = ask_l (section_l (ctx_l c) (section_l (one_expr e) (empty_l (last_l (one_ty r)))))
  labelled (IsQuestion.infer_app m c e l) = ask_l (section_l (ctx_l c) (section_l (one_expr e) (section_l (one_ty l) (last_l none_l))))
  labelled (IsQuestion.subtype m c l r) = ask_l (section_l (ctx_l c) (empty_l (section_l (one_ty l) (last_l (one_ty r)))))
  labelled (IsQuestion.inst_l m c r) = ask_l (section_l (ctx_l c) (empty_l (section_l (one_ty IsTy.etvar) (last_l (one_ty r)))))
  labelled (IsQuestion.inst_r m c l) = ask_l (section_l (ctx_l c) (empty_l (section_l (one_ty l) (last_l (one_ty IsTy.etvar)))))
  labelled (IsQuestion.run m e) = ask_l (empty_l (section_l (one_expr e) (empty_l (last_l none_l))))

-- ## The test

-- two words under one label, whatever names go together
fits : Label → ℕ → ℕ → Bool
fits (the n) w w' = eqb w n && eqb w' n
fits variable w w' = ltb w 1_000_000 && ltb w' 1_000_000
fits type_name w w' = ltb w 1_000_000 && ltb w' 1_000_000
fits half w w' = true
fits truth w w' = leb w 1 && leb w' 1

fit : List Label → List ℕ → List ℕ → Bool
fit [] [] [] = true
fit [] [] (w' ∷ u') = false
fit [] (w ∷ u) u' = false
fit (k ∷ s) [] u' = false
fit (k ∷ s) (w ∷ u) [] = false
fit (k ∷ s) (w ∷ u) (w' ∷ u') = fits k w w' && fit s u u'

-- the names that stand in the same places
is_variable : Label → Bool
is_variable (the n) = false
is_variable variable = true
is_variable type_name = false
is_variable half = false
is_variable truth = false

is_type_name : Label → Bool
is_type_name (the n) = false
is_type_name variable = false
is_type_name type_name = true
is_type_name half = false
is_type_name truth = false

names : (Label → Bool) → List Label → List ℕ → List ℕ → List (ℕ × ℕ)
names f [] u u' = []
names f (k ∷ s) [] u' = []
names f (k ∷ s) (w ∷ u) [] = []
names f (k ∷ s) (w ∷ u) (w' ∷ u') = pick (f k) ((w, w') ∷ names f s u u') (names f s u u')

every : (ℕ × ℕ → Bool) → List (ℕ × ℕ) → Bool
every f [] = true
every f (p ∷ l) = f p && every f l

-- two are the same on the left where they are the same on the right
one_to_one : List (ℕ × ℕ) → Bool
one_to_one l = every (λ p. every (λ q. beq (eqb p.0 q.0) (eqb p.1 q.1)) l) l

is_read : Read Question → Bool
is_read (got q p []) = true
is_read (got q p (w ∷ ws)) = false
is_read (fault c p) = false

pub are_alike : List ℕ → List ℕ → Bool
are_alike u u' =
    let s : List Label = labels_of u in
    is_read (read_question u) && (fit s u u' && (one_to_one (names is_variable s u u') && one_to_one (names is_type_name s u u')))

-- `unfolding deciding_computes` opens every definition above
unfoldable pub deciding_computes : Unit {0}
unfolding row after label_of labels in_sections filled labels_of fits fit is_variable is_type_name names every one_to_one is_read are_alike question_computes
deciding_computes = tt

-- ## What it says

-- a pair of a list
data PairIn (a b : ℕ) : List (ℕ × ℕ) → Type 0 where
  here : {p : ℕ × ℕ} {l : List (ℕ × ℕ)} → p.0 ≡ a → p.1 ≡ b → PairIn a b (p ∷ l)
  there : {p : ℕ × ℕ} {l : List (ℕ × ℕ)} → PairIn a b l → PairIn a b (p ∷ l)

every_in : (f : ℕ × ℕ → Bool) {a b : ℕ} {l : List (ℕ × ℕ)} → T (every f l) → PairIn a b l → T (f (a, b))
unfolding every
every_in f {l = []} t x = elim x [ ]
every_in f {l = p ∷ l} t (here e e') = rw (← e, ← e') (and_yes (f p) (every f l) t).0
every_in f {l = p ∷ l} t (there i) = every_in f (and_yes (f p) (every f l) t).1 i

in_every : (f : ℕ × ℕ → Bool) (l : List (ℕ × ℕ)) → ((a b : ℕ) → PairIn a b l → T (f (a, b))) → T (every f l)
unfolding every
in_every f [] h = tt
in_every f (p ∷ l) h = yes_and (f p) (every f l) (h p.0 p.1 (here refl refl)) (in_every f l (λ a b i. h a b (there i)))

thence : (b c : Bool) → T (beq b c) → (T b → T c) × (T c → T b)
thence true true t = (λ u. u, λ u. u)
thence true false t = absurd t
thence false true t = absurd t
thence false false t = (λ u. u, λ u. u)

same : (b c : Bool) → (T b → T c) → (T c → T b) → T (beq b c)
same true true h k = tt
same true false h k = h tt
same false true h k = k tt
same false false h k = tt

equal : (a b : ℕ) → a ≡ b → T (eqb a b)
equal a b e = rw e (eqb_refl b)

abbrev Pairs : List (ℕ × ℕ) → ℕ → ℕ → Type 0
Pairs l a b = PairIn a b l

pairs_of : (l : List (ℕ × ℕ)) → T (one_to_one l) → OneToOne (Pairs l)
unfolding one_to_one
pairs_of l t = record {
  right = λ {a} {b} {c} i j. eqb→eq b c ((thence (eqb a a) (eqb b c) (every_in _ (every_in _ t i) j)).0 (eqb_refl a));
  left = λ {a} {b} {c} i j. eqb→eq a b ((thence (eqb a b) (eqb c c) (every_in _ (every_in _ t i) j)).1 (eqb_refl c));
}

of_pairs : {R : ℕ → ℕ → Type 0} (l : List (ℕ × ℕ)) → OneToOne R → ((a b : ℕ) → PairIn a b l → R a b) → T (one_to_one l)
unfolding one_to_one
of_pairs l o h =
    in_every _ l (λ a b i. in_every _ l (λ c d j.
    same (eqb a c) (eqb b d)
    (λ t. equal b d (o.right (rw (eqb→eq a c t) at (h a b i)) (h c d j)))
    (λ t. equal a c (o.left (rw (eqb→eq b d t) at (h a b i)) (h c d j)))))

-- a word that fits is alike, if a pairing has it where it is a name
word_of : (P : Pairing) (k : Label) (w w' : ℕ) → T (fits k w w') → (T (is_variable k) → P.variables w w') → (T (is_type_name k) → P.types w w')
    → InQuestions P k w w'
unfolding fits is_variable is_type_name
word_of P (the n) w w' t v y = let (e, e') = and_yes (eqb w n) (eqb w' n) t in rw (eqb→eq w n e, eqb→eq w' n e') InQuestions.same
word_of P variable w w' t v y =
    let (e, e') = and_yes (ltb w 1_000_000) (ltb w' 1_000_000) t in
    InQuestions.variables (record { paired = v tt; low = ltb→lt w 1_000_000 e; low' = ltb→lt w' 1_000_000 e' })
word_of P type_name w w' t v y =
    let (e, e') = and_yes (ltb w 1_000_000) (ltb w' 1_000_000) t in
    InQuestions.type_names (record { paired = y tt; low = ltb→lt w 1_000_000 e; low' = ltb→lt w' 1_000_000 e' })
word_of P half w w' t v y = InQuestions.halves
word_of P truth w w' t v y = let (e, e') = and_yes (leb w 1) (leb w' 1) t in InQuestions.truths (leb→le w 1 e) (leb→le w' 1 e')

first : {w w' : ℕ} (l : List (ℕ × ℕ)) (b : Bool) → T b → PairIn w w' (pick b ((w, w') ∷ l) l)
unfolding pick
first l true t = here refl refl
first l false t = absurd t

later : {c d : ℕ} {l : List (ℕ × ℕ)} (p : ℕ × ℕ) (b : Bool) → PairIn c d l → PairIn c d (pick b (p ∷ l) l)
unfolding pick
later p true i = there i
later p false i = i

each_of : (P : Pairing) (s : List Label) (u u' : List ℕ) → T (fit s u u')
    → ((b c : ℕ) → PairIn b c (names is_variable s u u') → P.variables b c) → ((b c : ℕ) → PairIn b c (names is_type_name s u u') → P.types b c)
    → Each (InQuestions P) s u u'
unfolding fit names
each_of P [] [] [] t v y = none
each_of P [] [] (w' ∷ u') t v y = absurd t
each_of P [] (w ∷ u) u' t v y = absurd t
each_of P (k ∷ s) [] u' t v y = absurd t
each_of P (k ∷ s) (w ∷ u) [] t v y = absurd t
each_of P (k ∷ s) (w ∷ u) (w' ∷ u') t v y =
    let (l, r) = and_yes (fits k w w') (fit s u u') t in
    more
    (word_of P k w w' l (λ h. v w w' (first _ (is_variable k) h)) (λ h. y w w' (first _ (is_type_name k) h)))
    (each_of P s u u' r (λ b c i. v b c (later _ (is_variable k) i)) (λ b c i. y b c (later _ (is_type_name k) i)))

module _ {P : Pairing} where
  fits_of : {k : Label} {w w' : ℕ} → InQuestions P k w w' → T (fits k w w')
  unfolding fits
  fits_of (InQuestions.same {n}) = yes_and (eqb n n) (eqb n n) (eqb_refl n) (eqb_refl n)
  fits_of (InQuestions.variables {x} {x'} h) = yes_and (ltb x 1_000_000) (ltb x' 1_000_000) (lt→ltb x 1_000_000 h.low) (lt→ltb x' 1_000_000 h.low')
  fits_of (InQuestions.type_names {a} {a'} h) = yes_and (ltb a 1_000_000) (ltb a' 1_000_000) (lt→ltb a 1_000_000 h.low) (lt→ltb a' 1_000_000 h.low')
  fits_of InQuestions.halves = tt
  fits_of (InQuestions.truths {w} {w'} h h') = yes_and (leb w 1) (leb w' 1) (le→leb w 1 h) (le→leb w' 1 h')

  fit_of : {s : List Label} {u u' : List ℕ} → Each (InQuestions P) s u u' → T (fit s u u')
  unfolding fit
  fit_of none = tt
  fit_of (more {k} {w} {w'} {s} {u} {u'} x e) = yes_and (fits k w w') (fit s u u') (fits_of x) (fit_of e)

  variables_in : {s : List Label} {u u' : List ℕ} {b c : ℕ} → Each (InQuestions P) s u u' → PairIn b c (names is_variable s u u') → P.variables b c
  unfolding names is_variable pick
  variables_in none i = elim i [ ]
  variables_in (more InQuestions.same e) i = variables_in e i
  variables_in (more (InQuestions.variables h) e) (here p q) = rw (← p, ← q) h.paired
  variables_in (more (InQuestions.variables h) e) (there i) = variables_in e i
  variables_in (more (InQuestions.type_names h) e) i = variables_in e i
  variables_in (more InQuestions.halves e) i = variables_in e i
  variables_in (more (InQuestions.truths h h') e) i = variables_in e i

  types_in : {s : List Label} {u u' : List ℕ} {b c : ℕ} → Each (InQuestions P) s u u' → PairIn b c (names is_type_name s u u') → P.types b c
  unfolding names is_type_name pick
  types_in none i = elim i [ ]
  types_in (more InQuestions.same e) i = types_in e i
  types_in (more (InQuestions.variables h) e) i = types_in e i
  types_in (more (InQuestions.type_names h) e) (here p q) = rw (← p, ← q) h.paired
  types_in (more (InQuestions.type_names h) e) (there i) = types_in e i
  types_in (more InQuestions.halves e) i = types_in e i
  types_in (more (InQuestions.truths h h') e) i = types_in e i

read_of : (ws : List ℕ) (o : Read Question) → read_question ws ≡ o → T (is_read o) → WellFormed ws
unfolding is_read
read_of ws (got q p []) e t = record { question = q; place = p; read = e }
read_of ws (got q p (w ∷ r)) e t = absurd t
read_of ws (fault c p) e t = absurd t

of_read : {ws : List ℕ} → WellFormed ws → T (is_read (read_question ws))
unfolding is_read
of_read h = rw h.read tt

sound : (u u' : List ℕ) → T (are_alike u u') → (P : Pairing) × AlikeQuestions P u u'
unfolding are_alike
sound u u' t =
    let s : List Label = labels_of u in
    let (r, t₁) = and_yes (is_read (read_question u)) _ t in
    let (f, t₂) = and_yes (fit s u u') _ t₁ in
    let (v, y) = and_yes (one_to_one (names is_variable s u u')) _ t₂ in
    let P : Pairing = record {
      variables = Pairs (names is_variable s u u');
      types = Pairs (names is_type_name s u u');
      variables_pair = pairs_of _ v;
      types_pair = pairs_of _ y;
    } in
    let own = alike_itself (read_of u (read_question u) refl r) in
    (P, record { labels = s; format = rw (labelled own.format own.words) own.format; words = each_of P s u u' f (λ b c i. i) (λ b c i. i) })

complete : (u u' : List ℕ) (P : Pairing) → AlikeQuestions P u u' → T (are_alike u u')
unfolding are_alike
complete u u' P h =
    let e : labels_of u ≡ h.labels = labelled h.format h.words in
    yes_and (is_read (read_question u)) _ (of_read (well_formed h).0)
    (rw e (yes_and (fit h.labels u u') _ (fit_of h.words)
    (yes_and (one_to_one (names is_variable h.labels u u')) _
    (of_pairs _ P.variables_pair (λ b c i. variables_in h.words i))
    (of_pairs _ P.types_pair (λ b c i. types_in h.words i)))))

-- under some pairing; under none
abbrev pub Decided : Bool → List ℕ → List ℕ → Type 1
Decided true u u' = (P : Pairing) × AlikeQuestions P u u'
Decided false u u' = (P : Pairing) → ¬ AlikeQuestions P u u'

pub decided : (u u' : List ℕ) → Decided (are_alike u u') u u'
decided u u' = by (are_alike u u') (sound u u') (complete u u')
  where
    by : (b : Bool) → (T b → (P : Pairing) × AlikeQuestions P u u') → ((P : Pairing) → AlikeQuestions P u u' → T b) → Decided b u u'
    by true s c = s tt
    by false s c = c
