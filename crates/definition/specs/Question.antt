-- "A question is u32 words: kind, mode, then four sections in this order, each after its word count: context, expression, left type, right
-- type." It is read by "one reading from left to right, and its first fault decides between 4 and 5." (Readings, by number: docs/DECISIONS.md.)
use Rattle.std.specs.Prelude.{ℕ, zero, suc, Bool, true, false, ◌&&◌, List, [], ◌∷◌, length, take, drop, leb, ltb, eqb}
use Rattle.definition.specs.Syntax.{syntax_computes, pick, TmVar, TyVar, Ty, int, bool, var, etvar, arrow, forall, Expr, evar, app, abs, tapp, tabs, ann, lit_int, lit_bool, let_in, if_then_else, bin_op, Binding, var_bnd, tvar_bnd, etvar_bnd, setvar_bnd, mark, Entry, of_question, Ctx, on_l, on_r, Judgement, infer, check, infer_app, subtype, inst}

-- ---- Reading: a value with the next place and the words left, or a fault with its code and place

pub data Read (A : Type 0) : Type 0 where
  got : A → ℕ → List ℕ → Read A
  fault : ℕ → ℕ → Read A

-- from a place, and the words from there to the end of the section or question
abbrev pub Reader : Type 0 → Type 0
Reader A = ℕ → List ℕ → Read A

unfoldable pub next : {A B : Type 0} → Read A → (A → Reader B) → Read B
next (got a p ws) k = k a p ws
next (fault c p) k = fault c p

unfoldable pub ◌>>=◌ : {A B : Type 0} → Reader A → (A → Reader B) → Reader B
◌>>=◌ m k = λ p ws. next (m p ws) k

unfoldable pub give : {A : Type 0} → A → Reader A
give a p ws = got a p ws

-- | 4 BadShape | layout broken | place |
-- | 5 ReservedName | a written name of 1,000,000 or more | place |
unfoldable pub bad_shape : {A : Type 0} → ℕ → Reader A
bad_shape p q ws = fault 4 p

unfoldable pub reserved_name : {A : Type 0} → ℕ → Reader A
reserved_name p q ws = fault 5 p

-- "Place of a BadShape: the wrong word; the end of a section or question that stops too early": one word, and the reader that it chooses
unfoldable pub word : {A : Type 0} → (ℕ → ℕ → Reader A) → Reader A
word k p [] = fault 4 p
word k p (w ∷ ws) = k p w (suc p) ws

unfoldable pub any : Reader ℕ
any = word (λ p w. give w)

unfoldable pub within : ℕ → ℕ → Reader ℕ
within low high = word (λ p w. pick (leb low w && leb w high) (give w) (bad_shape p))

-- "Written names are below 1,000,000."
unfoldable pub written : Reader ℕ
written = word (λ p w. pick (ltb w 1_000_000) (give w) (reserved_name p))

-- what has names in it is read with a reader of names: in a question, `written`
unfoldable pub variable : Reader ℕ → Reader TmVar
variable name = do n ← name; give (record { number = n })

unfoldable pub type_name : Reader ℕ → Reader TyVar
type_name name = do n ← name; give (record { number = n })

-- a word that is a code of a table, and the reader in its row; any other is the wrong word, 1,000,000 and more among them (reading 13)
unfoldable pub row : {A : Type 0} → ℕ → List (ℕ × Reader A) → Reader A → Reader A
row w [] otherwise = otherwise
row w ((code, item) ∷ rows) otherwise = pick (eqb w code) item (row w rows otherwise)

unfoldable pub one_of : {A : Type 0} → List (ℕ × Reader A) → Reader A
one_of rows = word (λ p w. row w rows (bad_shape p))

-- ---- Types, expressions, entries. An item's own items are read one level less deep; the number of words left is depth enough.

unfoldable pub ty_rows : Reader ℕ → Reader Ty → List (ℕ × Reader Ty)
ty_rows name ty =
    (1, give int)
    ∷ (2, give bool)
    ∷ (3, (do a ← type_name name; give (var a)))
    ∷ (4, (do a ← type_name name; give (etvar a)))
    ∷ (5, (do A ← ty; B ← ty; give (arrow A B)))
    ∷ (6, (do a ← type_name name; A ← ty; give (forall a A)))
    ∷ []

unfoldable pub read_ty : Reader ℕ → ℕ → Reader Ty
read_ty name zero p ws = fault 4 p
read_ty name (suc d) p ws = one_of (ty_rows name (λ q vs. read_ty name d q vs)) p ws

unfoldable pub type : Reader ℕ → Reader Ty
type name p ws = read_ty name (length ws) p ws

unfoldable pub expr_rows : ℕ → Reader Expr → List (ℕ × Reader Expr)
expr_rows p expr =
    (16, (do x ← variable written; give (evar p x)))
    ∷ (17, (do e ← expr; e' ← expr; give (app p e e')))
    ∷ (18, (do x ← variable written; A ← type written; e ← expr; give (abs p x A e)))
    ∷ (19, (do e ← expr; A ← type written; give (tapp p e A)))
    ∷ (20, (do a ← type_name written; e ← expr; give (tabs p a e)))
    ∷ (21, (do e ← expr; A ← type written; give (ann p e A)))
    ∷ (22, (do l ← any; h ← any; give (lit_int p l h)))
    ∷ (23, (do b ← within 0 1; give (lit_bool p b)))
    ∷ (24, (do x ← variable written; e ← expr; e' ← expr; give (let_in p x e e')))
    ∷ (25, (do e ← expr; e' ← expr; e'' ← expr; give (if_then_else p e e' e'')))
    ∷ (26, (do o ← within 1 12; e ← expr; e' ← expr; give (bin_op p o e e')))
    ∷ []

unfoldable pub read_expr : ℕ → Reader Expr
read_expr zero p ws = fault 4 p
read_expr (suc d) p ws = one_of (expr_rows p (λ q vs. read_expr d q vs)) p ws

unfoldable pub expression : Reader Expr
expression p ws = read_expr (length ws) p ws

unfoldable pub binding : Reader ℕ → Reader Binding
binding name =
    one_of
    ((32, (do x ← variable name; A ← type name; give (var_bnd x A)))
    ∷ (33, (do a ← type_name name; give (tvar_bnd a)))
    ∷ (34, (do a ← type_name name; give (etvar_bnd a)))
    ∷ (35, (do a ← type_name name; A ← type name; give (setvar_bnd a A)))
    ∷ (36, (do a ← type_name name; give (mark a)))
    ∷ [])

unfoldable pub entry : Reader ℕ → Reader Entry
entry name = λ p. (do b ← binding name; give (of_question p b)) p

-- entries to the end of the section
unfoldable pub unless_end : {A : Type 0} → A → Reader A → Reader A
unless_end a m p [] = got a p []
unless_end a m p (w ∷ ws) = m p (w ∷ ws)

unfoldable pub read_ctx : Reader ℕ → ℕ → Reader Ctx
read_ctx name zero p ws = unless_end [] (bad_shape p) p ws
read_ctx name (suc d) p ws = unless_end [] (do e ← entry name; Γ ← (λ q vs. read_ctx name d q vs); give (e ∷ Γ)) p ws

unfoldable pub context : Reader ℕ → Reader Ctx
context name p ws = read_ctx name (length ws) p ws

-- ---- Sections: "the first word too many; the count itself where it overruns the question or should be 0". "A context may be empty even where
-- it is listed; other listed sections hold exactly one item": a count of 0 is a section that stops too early (reading 1).

unfoldable pub end : Reader Unit
end p [] = got tt p []
end p (w ∷ ws) = fault 4 p

-- the next n words, which the item takes up
unfoldable pub whole : {A : Type 0} → ℕ → Reader A → Reader A
whole n m p ws = next ((do a ← m; u ← end; give a) p (take n ws)) (λ a q vs. got a q (drop n ws))

-- the count overruns where it passes the words that are left, those of later counts among them (readings 3 and 4)
unfoldable pub counted : {A : Type 0} → Reader A → Reader A
counted m = word (λ p n q ws. pick (leb n (length ws)) (whole n m) (bad_shape p) q ws)

unfoldable pub empty : Reader ℕ
empty = within 0 0

-- "left is one ETVar", "right is one ETVar": another code is the wrong word, and nothing behind it is read (reading 2)
unfoldable pub unknown : Reader TyVar
unknown = one_of ((4, type_name written) ∷ [])

-- ---- "Mode is 0 plain or 1 strict." "Strict mode differs in two places."

pub record Mode : Type 0 where
  -- ChkLam compares the written parameter with the expected one
  pub compares_parameter : Bool
  -- InfIf applies its third context to both branch types
  pub applies_branches : Bool

abbrev pub plain : Mode
plain = record { compares_parameter = false; applies_branches = false }

abbrev pub strict : Mode
strict = record { compares_parameter = true; applies_branches = true }

unfoldable pub mode : Reader Mode
mode = one_of ((0, give plain) ∷ (1, give strict) ∷ [])

-- ---- "Any other section has count 0."
-- | kind | judgement | sections filled |
-- | 1 | infer | context, expression |
-- | 2 | check | context, expression, right |
-- | 3 | infer_app | context, expression, left (the function's type) |
-- | 4 | subtype | context, left, right |
-- | 5 | inst_l | the same; left is one ETVar |
-- | 6 | inst_r | the same; right is one ETVar |
-- | 7 | run_bidirectional | expression |

pub record Question : Type 0 where
  pub kind : ℕ
  pub manner : Mode
  pub asks : Judgement

unfoldable pub kind_rows : List (ℕ × Reader Judgement)
kind_rows =
    (1, (do Γ ← counted (context written); e ← counted expression; u ← empty; v ← empty; give (infer Γ e)))
    ∷ (2, (do Γ ← counted (context written); e ← counted expression; u ← empty; B ← counted (type written); give (check Γ e B)))
    ∷ (3, (do Γ ← counted (context written); e ← counted expression; A ← counted (type written); u ← empty; give (infer_app Γ e A)))
    ∷ (4, (do Γ ← counted (context written); u ← empty; A ← counted (type written); B ← counted (type written); give (subtype Γ A B)))
    ∷ (5, (do Γ ← counted (context written); u ← empty; a ← counted unknown; B ← counted (type written); give (inst on_l Γ a B)))
    ∷ (6, (do Γ ← counted (context written); u ← empty; A ← counted (type written); b ← counted unknown; give (inst on_r Γ b A)))
    ∷ (7, (do u ← empty; e ← counted expression; v ← empty; w ← empty; give (infer [] e)))
    ∷ []

unfoldable pub question : Reader Question
question = do
  k ← within 1 7
  m ← mode
  j ← row k kind_rows (bad_shape 0)
  u ← end
  give (record { kind = k; manner = m; asks = j })

-- "Places count from 0."
unfoldable pub read_question : List ℕ → Read Question
read_question ws = question 0 ws

-- `unfolding question_computes` opens every definition above, and those they rest on
unfoldable pub question_computes : Unit {0}
unfolding next ◌>>=◌ give bad_shape reserved_name word any within written variable type_name row one_of ty_rows read_ty type expr_rows read_expr expression binding entry unless_end read_ctx context end whole counted empty unknown mode kind_rows question read_question syntax_computes
question_computes = tt
