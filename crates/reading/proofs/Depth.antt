-- The depth does not matter: `type`, `expression` and `context` meet the equations of a recursion without any count. A program's proof goes
-- by these.
use Prim.Native.Nat.{ℕ, zero, suc, ◌≤◌}
use mathlib.Core.Path.{◌≡◌, refl, sym, ap, ◌∙◌}
use mathlib.Core.List.{List, [], ◌∷◌}
use mathlib.Core.Bool.{Bool, true, false}
use native.Mathlib.Omega.{arith}
use native.Mathlib.Nat.{le_of_suc-le-suc, not-suc-le-zero, le_refl}
use lib.ListN.{length}
use Rattle.definition.specs.Syntax.{pick, Ty, Expr, Ctx}
use Rattle.definition.specs.Question.{Read, got, fault, Reader, next, ◌>>=◌, give, bad_shape, reserved_name, word, any, within, written, variable, type_name, row, one_of, ty_rows, read_ty, type, expr_rows, read_expr, expression, binding, entry, unless_end, read_ctx, context}
use Rattle.laws.proofs.Depth.{read_ctx_none}

-- ## Two readers that are the same on up to n words, and never leave more than there were

abbrev NoMoreLeft : {A : Type 0} → ℕ → Read A → Type 0
NoMoreLeft n (got a p ws) = length ws ≤ n
NoMoreLeft n (fault c p) = Unit {0}

abbrev Upto : {A : Type 0} → ℕ → Reader A → Reader A → Type 0
Upto n m m' = (p : ℕ) (ws : List ℕ) → length ws ≤ n → (m p ws ≡ m' p ws) × NoMoreLeft (length ws) (m p ws)

-- one that never leaves more
abbrev Shrinks : {A : Type 0} → Reader A → Type 0
Shrinks m = (n : ℕ) → Upto n m m

weaken : {A : Type 0} (n n' : ℕ) (o : Read A) → n ≤ n' → NoMoreLeft n o → NoMoreLeft n' o
weaken n n' (got a p ws) h l = omega arith
weaken n n' (fault c p) h l = tt

next_upto : {A B : Type 0} (n k : ℕ) (o o' : Read A) (f f' : A → Reader B) → k ≤ n → o ≡ o' → NoMoreLeft k o → ((a : A) → Upto n (f a) (f' a))
    → (next o f ≡ next o' f') × NoMoreLeft k (next o f)
unfolding next
next_upto n k (got a p ws) o' f f' h e l g =
    let r = g a p ws (omega arith) in
    (r.0 ∙ ap (λ o. next o f') e, weaken (length ws) k (f a p ws) l r.1)
next_upto n k (fault c p) o' f f' h e l g = (ap (λ o. next o f') e, tt)

bind_upto : {A B : Type 0} {n : ℕ} {m m' : Reader A} {f f' : A → Reader B} → Upto n m m' → ((a : A) → Upto n (f a) (f' a))
    → Upto n (◌>>=◌ m f) (◌>>=◌ m' f')
unfolding ◌>>=◌
bind_upto {n = n} {m} {m'} {f} {f'} h g p ws l = next_upto n (length ws) (m p ws) (m' p ws) f f' l (h p ws l).0 (h p ws l).1 g

give_upto : {A : Type 0} {n : ℕ} (a : A) → Upto n (give a) (give a)
unfolding give
give_upto a p ws l = (refl, le_refl (length ws))

fault_upto : {A : Type 0} {n : ℕ} (p : ℕ) → Upto {A = A} n (bad_shape p) (bad_shape p)
unfolding bad_shape
fault_upto p q ws l = (refl, tt)

reserved_upto : {A : Type 0} {n : ℕ} (p : ℕ) → Upto {A = A} n (reserved_name p) (reserved_name p)
unfolding reserved_name
reserved_upto p q ws l = (refl, tt)

pick_upto : {A : Type 0} {n : ℕ} (b : Bool) {x x' y y' : Reader A} → Upto n x x' → Upto n y y' → Upto n (pick b x y) (pick b x' y')
unfolding pick
pick_upto true h k = h
pick_upto false h k = k

-- a word is used up
word_upto : {A : Type 0} {n : ℕ} {k k' : ℕ → ℕ → Reader A} → ((p w : ℕ) → Upto n (k p w) (k' p w)) → Upto (suc n) (word k) (word k')
unfolding word
word_upto h p [] l = (refl, tt)
word_upto {n = n} {k} {k'} h p (w ∷ ws) l =
    let r = h p w (suc p) ws (omega arith) in
    (r.0, weaken (length ws) (suc (length ws)) (k p w (suc p) ws) (omega arith) r.1)

-- where nothing is read again, one word or any number
less_upto : {A : Type 0} {n : ℕ} {m m' : Reader A} → Upto (suc n) m m' → Upto n m m'
less_upto h p ws l = h p ws (omega arith)

pub written_upto : Shrinks written
unfolding written
written_upto n = less_upto (word_upto (λ p w. pick_upto _ (give_upto w) (reserved_upto p)))

pub any_upto : Shrinks any
unfolding any
any_upto n = less_upto (word_upto (λ p w. give_upto w))

variable_upto : {n : ℕ} {name : Reader ℕ} → Shrinks name → Upto n (variable name) (variable name)
unfolding variable
variable_upto names = bind_upto (names _) (λ a. give_upto _)

type_name_upto : {n : ℕ} {name : Reader ℕ} → Shrinks name → Upto n (type_name name) (type_name name)
unfolding type_name
type_name_upto names = bind_upto (names _) (λ a. give_upto _)

within_upto : {n : ℕ} (low high : ℕ) → Upto n (within low high) (within low high)
unfolding within
within_upto low high = less_upto (word_upto (λ p w. pick_upto _ (give_upto w) (fault_upto p)))

data Rows {A : Type 0} (n : ℕ) : List (ℕ × Reader A) → List (ℕ × Reader A) → Type 0 where
  last : Rows n [] []
  and : {k : ℕ} {m m' : Reader A} {r r' : List (ℕ × Reader A)} → Upto n m m' → Rows n r r' → Rows n ((k, m) ∷ r) ((k, m') ∷ r')

row_upto : {A : Type 0} {n : ℕ} (w p : ℕ) {r r' : List (ℕ × Reader A)} → Rows n r r' → Upto n (row w r (bad_shape p)) (row w r' (bad_shape p))
unfolding row
row_upto w p last = fault_upto p
row_upto w p (and h k) = pick_upto _ h (row_upto w p k)

one_of_upto : {A : Type 0} {n : ℕ} {r r' : List (ℕ × Reader A)} → Rows n r r' → Upto (suc n) (one_of r) (one_of r')
unfolding one_of
one_of_upto h = word_upto (λ p w. row_upto w p h)

-- on no words, where both say o
none_upto : {A : Type 0} (m m' : Reader A) (o : ℕ → Read A) → ((p : ℕ) → NoMoreLeft 0 (o p)) → ((p : ℕ) → m p [] ≡ o p) → ((p : ℕ) → m' p [] ≡ o p)
    → Upto 0 m m'
none_upto m m' o h e e' p [] l = (e p ∙ sym (e' p), rw (e p) (h p))
none_upto m m' o h e e' p (w ∷ ws) l = absurd (not-suc-le-zero l)

-- ## A reader to a depth, as it goes from one depth to the next; on no words it says o at each

module _ {A : Type 0} (R : ℕ → Reader A) (o : ℕ → Read A) (few : (p : ℕ) → NoMoreLeft 0 (o p)) (none : (d p : ℕ) → R d p [] ≡ o p)
    (step : (n d d' : ℕ) → Upto n (R d) (R d') → Upto (suc n) (R (suc d)) (R (suc d'))) where
  deep_upto : (n d d' : ℕ) → n ≤ d → n ≤ d' → Upto n (R d) (R d')
  deep_upto zero d d' h h' = none_upto (R d) (R d') o few (none d) (none d')
  deep_upto (suc n) zero d' h h' = absurd (not-suc-le-zero h)
  deep_upto (suc n) (suc d) zero h h' = absurd (not-suc-le-zero h')
  deep_upto (suc n) (suc d) (suc d') h h' = step n d d' (deep_upto n d d' (le_of_suc-le-suc h) (le_of_suc-le-suc h'))

  -- any depth that is enough is as good as the words' own number
  whole_upto : (n d : ℕ) → n ≤ d → Upto n (R d) (λ p ws. R (length ws) p ws)
  whole_upto n d h p ws l = deep_upto (length ws) d (length ws) (omega arith) (le_refl (length ws)) p ws (le_refl (length ws))

-- ## Types, with any reader of names

read_ty_none : (name : Reader ℕ) (d p : ℕ) → read_ty name d p [] ≡ fault 4 p
unfolding read_ty one_of word
read_ty_none name zero p = refl
read_ty_none name (suc d) p = refl

module _ {name : Reader ℕ} (names : Shrinks name) where
  ty_rows_upto : {n : ℕ} {m m' : Reader Ty} → Upto n m m' → Rows n (ty_rows name m) (ty_rows name m')
  unfolding ty_rows
  ty_rows_upto h =
      and (give_upto _)
      (and (give_upto _)
      (and (bind_upto (type_name_upto names) (λ a. give_upto _))
      (and (bind_upto (type_name_upto names) (λ a. give_upto _))
      (and (bind_upto h (λ A. bind_upto h (λ B. give_upto _)))
      (and (bind_upto (type_name_upto names) (λ a. bind_upto h (λ A. give_upto _))) last)))))

  -- `type` is the reader of types at any depth that is enough
  type_upto : (n d : ℕ) → n ≤ d → Upto n (read_ty name d) (type name)
  unfolding type read_ty
  type_upto = whole_upto (read_ty name) (λ p. fault 4 p) (λ p. tt) (read_ty_none name) (λ n d d' h. one_of_upto (ty_rows_upto h))

  type_self : {n : ℕ} → Upto n (type name) (type name)
  unfolding type
  type_self p ws l = type_upto (length ws) (length ws) (le_refl (length ws)) p ws (le_refl (length ws))

  -- the equation of `type`
  pub type_eq : (p : ℕ) (ws : List ℕ) → type name p ws ≡ one_of (ty_rows name (type name)) p ws
  unfolding type read_ty one_of word
  type_eq p [] = refl
  type_eq p (w ∷ ws) =
      (one_of_upto (ty_rows_upto (type_upto (length ws) (length ws) (le_refl (length ws)))) p (w ∷ ws) (le_refl (length (w ∷ ws)))).0

-- ## Expressions

expr_rows_upto : {n : ℕ} (p : ℕ) {m m' : Reader Expr} → Upto n m m' → Rows n (expr_rows p m) (expr_rows p m')
unfolding expr_rows
expr_rows_upto p h =
    and (bind_upto (variable_upto written_upto) (λ x. give_upto _))
    (and (bind_upto h (λ e. bind_upto h (λ e'. give_upto _)))
    (and (bind_upto (variable_upto written_upto) (λ x. bind_upto (type_self written_upto) (λ A. bind_upto h (λ e. give_upto _))))
    (and (bind_upto h (λ e. bind_upto (type_self written_upto) (λ A. give_upto _)))
    (and (bind_upto (type_name_upto written_upto) (λ a. bind_upto h (λ e. give_upto _)))
    (and (bind_upto h (λ e. bind_upto (type_self written_upto) (λ A. give_upto _)))
    (and (bind_upto (any_upto _) (λ l. bind_upto (any_upto _) (λ k. give_upto _)))
    (and (bind_upto (within_upto 0 1) (λ b. give_upto _))
    (and (bind_upto (variable_upto written_upto) (λ x. bind_upto h (λ e. bind_upto h (λ e'. give_upto _))))
    (and (bind_upto h (λ e. bind_upto h (λ e'. bind_upto h (λ e''. give_upto _))))
    (and (bind_upto (within_upto 1 12) (λ o. bind_upto h (λ e. bind_upto h (λ e'. give_upto _)))) last))))))))))

-- its rows name the place
expr_of_upto : {n : ℕ} {m m' : Reader Expr} → Upto n m m' → Upto (suc n) (λ p. one_of (expr_rows p m) p) (λ p. one_of (expr_rows p m') p)
expr_of_upto h p = one_of_upto (expr_rows_upto p h) p

read_expr_none : (d p : ℕ) → read_expr d p [] ≡ fault 4 p
unfolding read_expr one_of word
read_expr_none zero p = refl
read_expr_none (suc d) p = refl

expression_upto : (n d : ℕ) → n ≤ d → Upto n (read_expr d) expression
unfolding expression read_expr
expression_upto = whole_upto read_expr (λ p. fault 4 p) (λ p. tt) read_expr_none (λ n d d' h. expr_of_upto h)

-- the equation of `expression`
pub expression_eq : (p : ℕ) (ws : List ℕ) → expression p ws ≡ one_of (expr_rows p expression) p ws
unfolding expression read_expr one_of word
expression_eq p [] = refl
expression_eq p (w ∷ ws) = (expr_of_upto (expression_upto (length ws) (length ws) (le_refl (length ws))) p (w ∷ ws) (le_refl (length (w ∷ ws)))).0

-- ## Contexts, with any reader of names

-- one entry, and the rest by m
unfoldable pub more : Reader ℕ → Reader Ctx → Reader Ctx
more name m = do e ← entry name; Γ ← m; give (e ∷ Γ)

-- what follows a word, and what is made of it, has one word less
after_word : {A B C : Type 0} {n : ℕ} {k : ℕ → ℕ → Reader A} {g : ℕ → A → Reader B} {f f' : B → Reader C} → ((p w : ℕ) → Upto n (k p w) (k p w))
    → ((p : ℕ) (a : A) → Upto n (g p a) (g p a)) → ((b : B) → Upto n (f b) (f' b))
    → Upto (suc n) (◌>>=◌ (λ p. ◌>>=◌ (word k) (g p) p) f) (◌>>=◌ (λ p. ◌>>=◌ (word k) (g p) p) f')
unfolding ◌>>=◌ word next
after_word h i j p [] l = (refl, tt)
after_word {n = n} {k} {g} {f} {f'} h i j p (w ∷ ws) l =
    let r = bind_upto (bind_upto (h p w) (i p)) j (suc p) ws (omega arith) in
    (r.0, weaken (length ws) (suc (length ws)) (next (next (k p w (suc p) ws) (g p)) f) (omega arith) r.1)

unless_end_upto : {A : Type 0} {n : ℕ} (a : A) {m m' : Reader A} → Upto n m m' → Upto n (unless_end a m) (unless_end a m')
unfolding unless_end
unless_end_upto a h p [] l = (refl, le_refl 0)
unless_end_upto a h p (w ∷ ws) l = h p (w ∷ ws) l

module _ {name : Reader ℕ} (names : Shrinks name) where
  more_upto : {n : ℕ} {m m' : Reader Ctx} → Upto n m m' → Upto (suc n) (more name m) (more name m')
  unfolding more entry binding one_of
  more_upto h =
      after_word (λ p w. row_upto w p
      (and (bind_upto (variable_upto names) (λ x. bind_upto (type_self names) (λ A. give_upto _)))
      (and (bind_upto (type_name_upto names) (λ a. give_upto _))
      (and (bind_upto (type_name_upto names) (λ a. give_upto _))
      (and (bind_upto (type_name_upto names) (λ a. bind_upto (type_self names) (λ A. give_upto _)))
      (and (bind_upto (type_name_upto names) (λ a. give_upto _)) last))))))
      (λ p b. give_upto _)
      (λ e. bind_upto h (λ Γ. give_upto _))

  context_upto : (n d : ℕ) → n ≤ d → Upto n (read_ctx name d) (context name)
  unfolding context read_ctx more
  context_upto =
      whole_upto (read_ctx name) (λ p. got [] p []) (λ p. le_refl 0) (read_ctx_none name) (λ n d d' h. unless_end_upto [] (more_upto h))

  -- the equation of `context`
  pub context_eq : (p : ℕ) (ws : List ℕ) → context name p ws ≡ unless_end [] (more name (context name)) p ws
  unfolding context read_ctx unless_end more
  context_eq p [] = refl
  context_eq p (w ∷ ws) = (more_upto (context_upto (length ws) (length ws) (le_refl (length ws))) p (w ∷ ws) (le_refl (length (w ∷ ws)))).0
