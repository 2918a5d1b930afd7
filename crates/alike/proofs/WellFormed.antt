-- Every question that is read is alike itself: `AlikeQuestions` leaves out no well-formed question. One that is not has a fault, 4 or 5.
use mathlib.Core.Path.{◌≡◌, refl, sym, ap, ◌∙◌}
use Prim.Native.Nat.{ℕ, zero, suc, ◌≤◌, ◌<◌}
use native.Mathlib.Omega.{arith}
use mathlib.Core.Bool.{Bool, true, false, not, ◌&&◌}
use mathlib.Core.List.{List, [], ◌∷◌, ◌++◌, append-nil, append_assoc}
use lib.ListN.{length, take, drop, take-append-drop}
use lib.Seq.{length-take-le}
use lib.Dec.{T, leb, ltb, eqb, leb→le, ltb→lt, eqb→eq}
use Rattle.definition.specs.Syntax
use Rattle.definition.specs.Syntax.{pick, TmVar, TyVar, Ty, Expr, Ctx}
use Rattle.definition.specs.Question.{Read, got, fault, Reader, next, ◌>>=◌, give, bad_shape, reserved_name, word, any, within, written, variable, type_name, row, one_of, ty_rows, read_ty, type, expr_rows, read_expr, expression, binding, entry, unless_end, read_ctx, context, end, whole, counted, empty, unknown, Mode, mode, Question, kind_rows, question, read_question}
use Rattle.alike.specs.Alike
use Rattle.alike.specs.Alike.{itself, Label, the, IsTy, IsExpr, IsEntry, IsCtx, IsQuestion, InQuestions, none, more, Alike, AlikeQuestions, WellFormed}
use Rattle.alike.proofs.Words.{done, under, item, join, sect, last_sect}

-- ## What a reading took

-- BadShape and ReservedName
pub data IsFault : ℕ → Type 0 where
  shape : IsFault 4
  name : IsFault 5

-- of the words ws, a reading that succeeds took some words u of which F holds, and left the rest
data Took {A : Type 0} (F : A → List ℕ → Type 0) (ws : List ℕ) : Read A → Type 0 where
  took : {a : A} {q : ℕ} (u r : List ℕ) → F a u → ws ≡ u ++ r → Took F ws (got a q r)
  failed : {c p : ℕ} → IsFault c → Took F ws (fault c p)

record Only {A : Type 0} (m : Reader A) (F : A → List ℕ → Type 0) : Type 0 where
  at : (p : ℕ) (ws : List ℕ) → Took F ws (m p ws)

module _ {A : Type 0} {F : A → List ℕ → Type 0} where
  give_o : (a : A) → F a [] → Only (give a) F
  unfolding give
  give_o a h = record { at = λ p ws. took [] ws h refl }

  fault_o : (p : ℕ) → Only (bad_shape p) F
  unfolding bad_shape
  fault_o p = record { at = λ q ws. failed shape }

  next_o : {B : Type 0} {G : B → List ℕ → Type 0} {ws : List ℕ} {o : Read B} (f : B → Reader A) → Took G ws o
      → ((b : B) (u : List ℕ) → G b u → Only (f b) (λ a v. F a (u ++ v))) → Took F ws (next o f)
  unfolding next
  next_o f (took {a = b} {q = q} u r g e) h = more u e ((h b u g).at q r)
    where
      more : {ws r : List ℕ} {o : Read A} (u : List ℕ) → ws ≡ u ++ r → Took (λ a v. F a (u ++ v)) r o → Took F ws o
      more u e (took v s f e') = took (u ++ v) s f (e ∙ ap (λ l. u ++ l) e' ∙ sym (append_assoc u v s))
      more u e (failed h) = failed h
  next_o f (failed h) k = failed h

  bind_o : {B : Type 0} {G : B → List ℕ → Type 0} {m : Reader B} (f : B → Reader A) → Only m G
      → ((b : B) (u : List ℕ) → G b u → Only (f b) (λ a v. F a (u ++ v))) → Only (◌>>=◌ m f) F
  unfolding ◌>>=◌
  bind_o f g h = record { at = λ p ws. next_o f (g.at p ws) h }

  last_took : {B : Type 0} {G : B → List ℕ → Type 0} {ws : List ℕ} {o : Read B} (f : B → A) → Took G ws o
      → ((b : B) (u : List ℕ) → G b u → F (f b) u)
      → Took F ws (next o λ b. give (f b))
  unfolding next give
  last_took f (took u r g e) h = took u r (h _ u g) e
  last_took f (failed h) k = failed h

  last_o : {B : Type 0} {G : B → List ℕ → Type 0} {m : Reader B} (f : B → A) → Only m G → ((b : B) (u : List ℕ) → G b u → F (f b) u)
      → Only (◌>>=◌ m λ b. give (f b)) F
  unfolding ◌>>=◌
  last_o f g h = record { at = λ p ws. last_took f (g.at p ws) h }

  pick_o : (b : Bool) {m m' : Reader A} → (T b → Only m F) → (T (not b) → Only m' F) → Only (pick b m m') F
  unfolding pick
  pick_o true h k = h tt
  pick_o false h k = k tt

  cons_o : {o : Read A} {w : ℕ} {ws : List ℕ} → Took (λ a v. F a (w ∷ v)) ws o → Took F (w ∷ ws) o
  cons_o {w = w} (took u r f e) = took (w ∷ u) r f (ap (λ l. w ∷ l) e)
  cons_o (failed h) = failed h

  word_o : (k : ℕ → ℕ → Reader A) → ((p w : ℕ) → Only (k p w) (λ a v. F a (w ∷ v))) → Only (word k) F
  unfolding word
  word_o k h = record { at = λ p. elim [ [] ↦ failed shape | w ∷ ws ↦ cons_o ((h p w).at (suc p) ws) ] }

-- ## Words

data Lone (R : ℕ → Type 0) (w : ℕ) : List ℕ → Type 0 where
  lone : R w → Lone R w (w ∷ [])

within_o : (low high : ℕ) → Only (within low high) (Lone (λ w. (low ≤ w) × (w ≤ high)))
unfolding within
within_o low high =
    word_o _ (λ p w. pick_o (leb low w && leb w high)
    (λ t. let (l, h) = both (leb low w) (leb w high) t in give_o w (lone (leb→le low w l, leb→le w high h)))
    (λ t. fault_o p))
  where
    both : (b c : Bool) → T (b && c) → T b × T c
    both true c t = (tt, t)
    both false c t = absurd t

any_o : Only any (Lone (λ w. Unit {0}))
unfolding any
any_o = word_o _ (λ p w. give_o w (lone tt))

name_o : Only written (Lone (λ w. w < 1_000_000))
unfolding written reserved_name
name_o = word_o _ (λ p w. pick_o (ltb w 1_000_000) (λ t. give_o w (lone (ltb→lt w 1_000_000 t))) (λ t. record { at = λ q ws. failed name }))

variable_o : Only (variable written) (λ x. Lone (λ w. w < 1_000_000) x.number)
unfolding variable
variable_o = last_o _ name_o (λ n u h. h)

type_name_o : Only (type_name written) (λ a. Lone (λ w. w < 1_000_000) a.number)
unfolding type_name
type_name_o = last_o _ name_o (λ n u h. h)

-- ## A code, a section

data Rows {A : Type 0} (F : A → List ℕ → Type 0) : List (ℕ × Reader A) → Type 0 where
  no_row : Rows F []
  ◌⨾◌ : {r : ℕ × Reader A} {rows : List (ℕ × Reader A)} → Only r.1 (λ a v. F a (r.0 ∷ v)) → Rows F rows → Rows F (r ∷ rows)

infixr 20 ◌⨾◌
data SectionWords {A : Type 0} (G : A → List ℕ → Type 0) (a : A) : List ℕ → Type 0 where
  in_section : {u : List ℕ} → G a u → SectionWords G a (Syntax.section u)

module _ {A : Type 0} {F : A → List ℕ → Type 0} where
  -- a reader of one word, and what comes then
  lone_o : {B : Type 0} {R : ℕ → Type 0} {m : Reader B} (number : B → ℕ) (f : B → Reader A) → Only m (λ b. Lone R (number b))
      → ((b : B) → R (number b) → Only (f b) (λ a v. F a (number b ∷ v))) → Only (◌>>=◌ m f) F
  lone_o {B} {R} number f g h = bind_o f g by
    where
      by : (b : B) (u : List ℕ) → Lone R (number b) u → Only (f b) (λ a v. F a (u ++ v))
      by b u (lone r) = h b r

  row_o : (p w : ℕ) {rows : List (ℕ × Reader A)} → Rows F rows → Only (row w rows (bad_shape p)) (λ a v. F a (w ∷ v))
  unfolding row
  row_o p w no_row = fault_o p
  row_o p w (◌⨾◌ {r = r} h t) = pick_o (eqb w r.0) (λ e. rw (eqb→eq w r.0 e) h) (λ e. row_o p w t)

  one_of_o : {rows : List (ℕ × Reader A)} → Rows F rows → Only (one_of rows) F
  unfolding one_of
  one_of_o t = word_o _ (λ p w. row_o p w t)

-- ## Types and expressions

abbrev Own : (List Label → Type 0) → List ℕ → Type 0
Own Is u = Alike (InQuestions itself) Is u u

same : (n : ℕ) → InQuestions itself (the n) n n
same n = InQuestions.same

code : {Is : List Label → Type 0} {n : ℕ} {u : List ℕ} → Own (λ s. Is (the n ∷ s)) u → Own Is (n ∷ u)
code a = under _ InQuestions.same a

on_type_name : {A : Type 0} {F : A → List ℕ → Type 0} (f : TyVar → Reader A)
    → ((a : TyVar) → InQuestions itself Label.type_name a.number a.number → Only (f a) (λ b v. F b (a.number ∷ v)))
    → Only (◌>>=◌ (type_name written) f) F
on_type_name f h = lone_o (λ a. a.number) f type_name_o (λ a l. h a (InQuestions.type_names (record { paired = refl; low = l; low' = l })))

on_variable : {A : Type 0} {F : A → List ℕ → Type 0} (f : TmVar → Reader A)
    → ((x : TmVar) → InQuestions itself Label.variable x.number x.number → Only (f x) (λ b v. F b (x.number ∷ v)))
    → Only (◌>>=◌ (variable written) f) F
on_variable f h = lone_o (λ x. x.number) f variable_o (λ x l. h x (InQuestions.variables (record { paired = refl; low = l; low' = l })))

ty_rows_o : (ty : Reader Ty) → Only ty (λ A. Own IsTy) → Rows (λ A. Own IsTy) (ty_rows written ty)
unfolding ty_rows
ty_rows_o ty h =
    give_o _ (code (done IsTy.int))
    ⨾ give_o _ (code (done IsTy.bool))
    ⨾ on_type_name _ (λ a n. give_o _ (code (under _ n (done IsTy.var))))
    ⨾ on_type_name _ (λ a n. give_o _ (code (under _ n (done IsTy.etvar))))
    ⨾ bind_o _ h (λ A u s. last_o _ h (λ B v t. code (join s (item (λ _. IsTy.arrow s.format) t))))
    ⨾ on_type_name _ (λ a n. last_o _ h (λ A u t. code (under _ n (item (λ _. IsTy.forall) t))))
    ⨾ no_row

read_ty_o : (d : ℕ) → Only (read_ty written d) (λ A. Own IsTy)
unfolding read_ty
read_ty_o zero = record { at = λ p ws. failed shape }
read_ty_o (suc d) = record { at = λ p ws. (one_of_o (ty_rows_o _ (record { at = λ q vs. (read_ty_o d).at q vs }))).at p ws }

type_o : Only (type written) (λ A. Own IsTy)
unfolding type
type_o = record { at = λ p ws. (read_ty_o (length ws)).at p ws }

expr_rows_o : (p : ℕ) (expr : Reader Expr) → Only expr (λ e. Own IsExpr) → Rows (λ e. Own IsExpr) (expr_rows p expr)
unfolding expr_rows
expr_rows_o p expr h =
    on_variable _ (λ x n. give_o _ (code (under _ n (done IsExpr.evar))))
    ⨾ bind_o _ h (λ e u s. last_o _ h (λ f v t. code (join s (item (λ _. IsExpr.app s.format) t))))
    ⨾ on_variable _ (λ x n. bind_o _ type_o (λ A u s. last_o _ h (λ e v t. code (under _ n (join s (item (λ _. IsExpr.abs s.format) t))))))
    ⨾ bind_o _ h (λ e u s. last_o _ type_o (λ A v t. code (join s (item (λ _. IsExpr.tapp s.format) t))))
    ⨾ on_type_name _ (λ a n. last_o _ h (λ e u t. code (under _ n (item (λ _. IsExpr.tabs) t))))
    ⨾ bind_o _ h (λ e u s. last_o _ type_o (λ A v t. code (join s (item (λ _. IsExpr.ann s.format) t))))
    ⨾ lone_o (λ l. l) _ any_o (λ l t. lone_o (λ g. g) _ any_o (λ g t.
    give_o _ (code (under _ InQuestions.halves (under _ InQuestions.halves (done IsExpr.lit_int))))))
    ⨾ lone_o (λ b. b) _ (within_o 0 1) (λ b t. give_o _ (code (under _ (InQuestions.truths t.1 t.1) (done IsExpr.lit_bool))))
    ⨾ on_variable _ (λ x n. bind_o _ h (λ e u s. last_o _ h (λ f v t. code (under _ n (join s (item (λ _. IsExpr.let_in s.format) t))))))
    ⨾ bind_o _ h (λ e u r. bind_o _ h (λ f v s. last_o _ h (λ g w t.
    code (join r (join s (item (λ _. IsExpr.if_then_else r.format s.format) t))))))
    ⨾ lone_o (λ o. o) _ (within_o 1 12) (λ o l. bind_o _ h (λ e u s. last_o _ h (λ f v t.
    code (code (join s (item (λ _. IsExpr.bin_op l.0 l.1 s.format) t))))))
    ⨾ no_row

read_expr_o : (d : ℕ) → Only (read_expr d) (λ e. Own IsExpr)
unfolding read_expr
read_expr_o zero = record { at = λ p ws. failed shape }
read_expr_o (suc d) = record { at = λ p ws. (one_of_o (expr_rows_o p _ (record { at = λ q vs. (read_expr_o d).at q vs }))).at p ws }

expression_o : Only expression (λ e. Own IsExpr)
unfolding expression
expression_o = record { at = λ p ws. (read_expr_o (length ws)).at p ws }

-- ## Contexts

binding_o : Only (binding written) (λ e. Own IsEntry)
unfolding binding
binding_o =
    one_of_o
    (on_variable _ (λ x n. last_o _ type_o (λ A u t. code (under _ n (item (λ _. IsEntry.var_bnd) t))))
    ⨾ on_type_name _ (λ a n. give_o _ (code (under _ n (done IsEntry.tvar_bnd))))
    ⨾ on_type_name _ (λ a n. give_o _ (code (under _ n (done IsEntry.etvar_bnd))))
    ⨾ on_type_name _ (λ a n. last_o _ type_o (λ A u t. code (under _ n (item (λ _. IsEntry.setvar_bnd) t))))
    ⨾ on_type_name _ (λ a n. give_o _ (code (under _ n (done IsEntry.mark))))
    ⨾ no_row)

entry_o : Only (entry written) (λ e. Own IsEntry)
unfolding entry
entry_o = last_o _ binding_o (λ b u t. t)

unless_end_o : (m : Reader Ctx) → Only m (λ Γ. Own IsCtx) → Only (unless_end [] m) (λ Γ. Own IsCtx)
unfolding unless_end
unless_end_o m h = record { at = λ p. elim [ [] ↦ took [] [] (done IsCtx.no_entry) refl | w ∷ ws ↦ h.at p (w ∷ ws) ] }

read_ctx_o : (d : ℕ) → Only (read_ctx written d) (λ Γ. Own IsCtx)
unfolding read_ctx
read_ctx_o zero = record { at = λ p ws. (unless_end_o _ (fault_o p)).at p ws }
read_ctx_o (suc d) =
    let entries : Only (λ q vs. read_ctx written d q vs) (λ Γ. Own IsCtx) = record { at = λ q vs. (read_ctx_o d).at q vs } in
    let more = bind_o _ entry_o (λ e u s. last_o _ entries (λ Γ v t. join s (item (λ _. IsCtx.entry s.format) t))) in
    record { at = λ p ws. (unless_end_o _ more).at p ws }

context_o : Only (context written) (λ Γ. Own IsCtx)
unfolding context
context_o = record { at = λ p ws. (read_ctx_o (length ws)).at p ws }

-- ## Sections

-- all of the next n words
whole_took : {A : Type 0} {G : A → List ℕ → Type 0} (n : ℕ) (ws : List ℕ) {o : Read A} → n ≤ length ws → Took G (take n ws) o
    → Took (λ a v. SectionWords G a (n ∷ v)) ws (next (next o (λ a. ◌>>=◌ end λ t. give a)) (λ a q vs. got a q (drop n ws)))
unfolding next ◌>>=◌ end give Syntax.section
whole_took {G = G} n ws h (took {a = a} u [] g e) =
    let taken : take n ws ≡ u = e ∙ append-nil u in
    let long : n ≡ length u = sym (length-take-le n ws h) ∙ ap length taken in
    let full : SectionWords G a (n ∷ u) = rw long (in_section g) in
    took u (drop n ws) full (sym (take-append-drop n ws) ∙ ap (λ l. l ++ drop n ws) taken)
whole_took n ws h (took u (x ∷ r) g e) = failed shape
whole_took n ws h (failed k) = failed k

counted_o : {A : Type 0} {G : A → List ℕ → Type 0} {m : Reader A} → Only m G → Only (counted m) (SectionWords G)
unfolding counted whole bad_shape pick ◌>>=◌ next
counted_o {G = G} {m} h = word_o _ (λ p n. record { at = λ q ws. by p n q ws (leb n (length ws)) refl })
  where
    by : (p n q : ℕ) (ws : List ℕ) (b : Bool) → leb n (length ws) ≡ b
        → Took (λ a v. SectionWords G a (n ∷ v)) ws (pick b (whole n m) (bad_shape p) q ws)
    by p n q ws true e = whole_took n ws (leb→le n (length ws) (rw e tt)) (h.at q (take n ws))
    by p n q ws false e = failed shape

module _ {A : Type 0} {F : A → List ℕ → Type 0} where
  section_o : {B : Type 0} {G : B → List ℕ → Type 0} {m : Reader B} (f : B → Reader A) → Only m G
      → ((b : B) (u : List ℕ) → G b u → Only (f b) (λ a v. F a (Syntax.section u ++ v))) → Only (◌>>=◌ (counted m) f) F
  section_o {B} {G} f g h = bind_o f (counted_o g) by
    where
      by : (b : B) (w : List ℕ) → SectionWords G b w → Only (f b) (λ a v. F a (w ++ v))
      by b w (in_section {u = u} x) = h b u x

  last_section_o : {B : Type 0} {G : B → List ℕ → Type 0} {m : Reader B} (f : B → A) → Only m G
      → ((b : B) (u : List ℕ) → G b u → F (f b) (Syntax.section u))
      → Only (◌>>=◌ (counted m) λ b. give (f b)) F
  last_section_o {B} {G} f g h = last_o f (counted_o g) by
    where
      by : (b : B) (w : List ℕ) → SectionWords G b w → F (f b) w
      by b w (in_section {u = u} x) = h b u x

  empty_o : (f : ℕ → Reader A) → ((n : ℕ) → Only (f n) (λ a v. F a (0 ∷ v))) → Only (◌>>=◌ empty f) F
  unfolding empty
  empty_o f h = lone_o (λ n. n) f (within_o 0 0) (λ n l. zero_word n l.1 (h n))
    where
      zero_word : (n : ℕ) → n ≤ 0 → Only (f n) (λ a v. F a (0 ∷ v)) → Only (f n) (λ a v. F a (n ∷ v))
      zero_word zero l h = h
      zero_word (suc n) l h = absurd (omega arith)

-- ## Questions

data ModeWord (m : Mode) : List ℕ → Type 0 where
  mode_word : {w : ℕ} → w ≤ 1 → ModeWord m (w ∷ [])

mode_o : Only mode ModeWord
unfolding mode
mode_o = one_of_o (give_o _ (mode_word (omega arith)) ⨾ give_o _ (mode_word (omega arith)) ⨾ no_row)

data Unknown (a : TyVar) : List ℕ → Type 0 where
  unknown_words : InQuestions itself Label.type_name a.number a.number → Unknown a (4 ∷ a.number ∷ [])

unknown_o : Only unknown Unknown
unfolding unknown
unknown_o = one_of_o (record { at = λ p ws. only (type_name_o.at p ws) } ⨾ no_row)
  where
    only : {ws : List ℕ} {o : Read TyVar} → Took (λ a. Lone (λ w. w < 1_000_000) a.number) ws o → Took (λ a v. Unknown a (4 ∷ v)) ws o
    only (took u r (lone l) e) = took u r (unknown_words (InQuestions.type_names (record { paired = refl; low = l; low' = l }))) e
    only (failed h) = failed h

on_unknown : {A : Type 0} {F : A → List ℕ → Type 0} (f : TyVar → Reader A)
    → ((a : TyVar) → InQuestions itself Label.type_name a.number a.number → Only (f a) (λ b v. F b (2 ∷ 4 ∷ a.number ∷ v)))
    → Only (◌>>=◌ (counted unknown) f) F
unfolding Syntax.section
on_unknown {F} f h = section_o f unknown_o by
  where
    by : (a : TyVar) (u : List ℕ) → Unknown a u → Only (f a) (λ b v. F b (Syntax.section u ++ v))
    by a u (unknown_words n) = h a n

last_unknown : {A : Type 0} {F : A → List ℕ → Type 0} (f : TyVar → A)
    → ((a : TyVar) → InQuestions itself Label.type_name a.number a.number → F (f a) (2 ∷ 4 ∷ a.number ∷ []))
    → Only (◌>>=◌ (counted unknown) λ a. give (f a)) F
unfolding Syntax.section
last_unknown {F} f h = last_section_o f unknown_o by
  where
    by : (a : TyVar) (u : List ℕ) → Unknown a u → F (f a) (Syntax.section u)
    by a u (unknown_words n) = h a n

-- the mode's word stands after the kind
abbrev with_mode : ℕ → List ℕ → List ℕ
with_mode m [] = []
with_mode m (k ∷ v) = k ∷ m ∷ v

-- a question from its sections
asks : {Is₁ Is₂ Is₃ Is₄ : List Label → Type 0} {k m : ℕ} {u v w x : List ℕ} (c : Own Is₁ u) (e : Own Is₂ v) (l : Own Is₃ w) (r : Own Is₄ x)
    → IsQuestion (Alike.ask k m c.labels e.labels l.labels r.labels)
    → Own IsQuestion (k ∷ m ∷ Syntax.section u ++ (Syntax.section v ++ (Syntax.section w ++ Syntax.section x)))
asks c e l r f = code (code (sect same c (sect same e (sect same l (last_sect same r f)))))

nothing : Own (λ s. Unit {0}) []
nothing = record { labels = []; format = tt; words = none }

one_name : {a : ℕ} → InQuestions itself Label.type_name a a → Own (λ s. Unit {0}) (4 ∷ a ∷ [])
one_name n = record { labels = Alike.unknown; format = tt; words = more InQuestions.same (more n none) }

kind_rows_o : (m : ℕ) → m ≤ 1 → Rows (λ j v. Own IsQuestion (with_mode m v)) kind_rows
unfolding kind_rows Syntax.section nothing one_name
kind_rows_o m h =
    section_o _ context_o (λ Γ u c. section_o _ expression_o (λ a v e. empty_o _ (λ i. empty_o _ (λ k.
    give_o _ (asks c e nothing nothing (IsQuestion.infer h c.format e.format))))))
    ⨾ section_o _ context_o (λ Γ u c. section_o _ expression_o (λ a v e. empty_o _ (λ i. last_section_o _ type_o (λ B w r.
    asks c e nothing r (IsQuestion.check h c.format e.format r.format)))))
    ⨾ section_o _ context_o (λ Γ u c. section_o _ expression_o (λ a v e. section_o _ type_o (λ A w l. empty_o _ (λ i.
    give_o _ (asks c e l nothing (IsQuestion.infer_app h c.format e.format l.format))))))
    ⨾ section_o _ context_o (λ Γ u c. empty_o _ (λ i. section_o _ type_o (λ A v l. last_section_o _ type_o (λ B w r.
    asks c nothing l r (IsQuestion.subtype h c.format l.format r.format)))))
    ⨾ section_o _ context_o (λ Γ u c. empty_o _ (λ i. on_unknown _ (λ a n. last_section_o _ type_o (λ B w r.
    asks c nothing (one_name n) r (IsQuestion.inst_l h c.format r.format)))))
    ⨾ section_o _ context_o (λ Γ u c. empty_o _ (λ i. section_o _ type_o (λ A v l. last_unknown _ (λ b n.
    asks c nothing l (one_name n) (IsQuestion.inst_r h c.format l.format)))))
    ⨾ empty_o _ (λ i. section_o _ expression_o (λ a v e. empty_o _ (λ k. empty_o _ (λ o.
    give_o _ (asks nothing e nothing nothing (IsQuestion.run h e.format))))))
    ⨾ no_row

end_o : Only end (λ t u. u ≡ [])
unfolding end
end_o = record { at = λ p. elim [ [] ↦ took [] [] refl refl | w ∷ ws ↦ failed shape ] }

question_o : Only question (λ q u. Own IsQuestion u)
unfolding question
question_o = lone_o (λ k. k) _ (within_o 1 7) (λ k l. bind_o _ mode_o (by k))
  where
    by : (k : ℕ) (μ : Mode) (v : List ℕ) → ModeWord μ v
        → Only {A = Question}
        (◌>>=◌ (row k kind_rows (bad_shape 0)) λ j. ◌>>=◌ end λ t. give (record { kind = k; manner = μ; asks = j }))
        (λ q u. Own IsQuestion (k ∷ v ++ u))
    by k μ v (mode_word {w = m} h) = bind_o _ (row_o 0 k (kind_rows_o m h)) (λ j w a. last_o _ end_o (λ t x e. rw (e, append-nil w) a))

all_read : {q : Question} {p : ℕ} {ws : List ℕ} {o : Read Question} → Took (λ q u. Own IsQuestion u) ws o → o ≡ got q p []
    → AlikeQuestions itself ws ws
all_read {q} {p} (took u r h e) g = let z : r ≡ [] = cc in rw (e, z, append-nil u) h
all_read {q} {p} (failed h) g = let z : ◌≡◌ {A = ℕ} 0 1 = cc in absurd (omega arith)

pub alike_itself : {ws : List ℕ} → WellFormed ws → AlikeQuestions itself ws ws
unfolding read_question
alike_itself {ws} h = all_read (question_o.at 0 ws) h.read

faulted : {c p : ℕ} {ws : List ℕ} {o : Read Question} → Took (λ q u. Own IsQuestion u) ws o → o ≡ fault c p → IsFault c
faulted (took u r h e) g = let z : ◌≡◌ {A = ℕ} 0 1 = cc in absurd (omega arith)
faulted {c} (failed {c = d} h) g = let e : d ≡ c = cc in rw (← e) h

-- "one reading from left to right, and its first fault decides between 4 and 5"
pub four_or_five : (ws : List ℕ) {c p : ℕ} → read_question ws ≡ fault c p → IsFault c
unfolding read_question
four_or_five ws e = faulted (question_o.at 0 ws) e
