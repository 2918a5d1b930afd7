-- What a type reference and a run of entries denote.
use Rattle.std.specs.Prelude.{◌≡◌, true, List, [], ◌∷◌, ℕ, ◌+◌, ◌*◌, ◌≤◌, ◌<◌, ◌^◌, min, length, get_or}
use Rattle.definition.specs.Syntax.{TyVar, Ty, int, bool, etvar, arrow, forall, Expr, Entry, Ctx}
use Rattle.definition.specs.Contexts.{key_of, kind_of, name_of, held}
use Rattle.definition.specs.Types.{is_mono}
use Rattle.definition.specs.Rules.{ty_code}
use Rattle.definition.specs.Reply.{most}
use Rattle.layout.specs.Sizes.{BASE, ENDS, FLOOR}
use Rattle.layout.specs.Words.{Put4}
use Rattle.layout.specs.Monotypes.{with_mono, past}
use Rattle.layout.specs.Places.{size, expr_size, TyAt, ExprAt}
use Rattle.layout.specs.Names.{key}
use Rattle.layout.specs.declared.Entry as program

-- a length as a word
abbrev pub capped : ℕ → ℕ
capped n = min n most

-- r refers to T's record, n words at place i of work, below t; the first is T's code, with the monotype mark
pub record MadeAt (w : List ℕ) (t r i n : ℕ) (T : Ty) : Type 0 where
  pub ref : r ≡ BASE + i
  pub below : i + n ≤ t
  pub is : get_or w i 0 ≡ with_mono (ty_code T) (is_mono T)

-- the reference r denotes T, by the question and by words of work below t; what a record refers to was made before it
pub data Den (q w : List ℕ) (t : ℕ) : ℕ → Ty → Type 0 where
  written : {r : ℕ} {T : Ty} → TyAt q r T → Den q w t r T
  int_made : {r i : ℕ} → MadeAt w t r i 1 int → Den q w t r int
  bool_made : {r i : ℕ} → MadeAt w t r i 1 bool → Den q w t r bool
  etvar_made : {r i : ℕ} {a : TyVar} → MadeAt w t r i 2 (etvar a) → get_or w (i + 1) 0 ≡ a.number → Den q w t r (etvar a)
  arrow_made : {r i l m : ℕ} {A B : Ty} → MadeAt w t r i 4 (arrow A B) → l < r → m < r → get_or w (i + 1) 0 ≡ l → get_or w (i + 2) 0 ≡ m
      → get_or w (i + 3) 0 ≡ capped (size (arrow A B)) → Den q w t l A → Den q w t m B → Den q w t r (arrow A B)
  forall_made : {r i m : ℕ} {a : TyVar} {A : Ty} → MadeAt w t r i 4 (forall a A) → m < r → get_or w (i + 1) 0 ≡ a.number → get_or w (i + 2) 0 ≡ m
      → get_or w (i + 3) 0 ≡ capped (size (forall a A)) → Den q w t m A → Den q w t r (forall a A)

-- the program's entry p is e
pub record AsEntry (q w : List ℕ) (t : ℕ) (p : program.Entry) (e : Entry) : Type 0 where
  pub key_is : key_of e ≡ key p.key
  pub den : Den q w t p.ty (held e)

-- it can be put into words
pub record SmallEntry (p : program.Entry) : Type 0 where
  pub ty : p.ty < 2 ^ 32

-- the four words of an entry at a place of work, below t
pub record EntryAt (q w : List ℕ) (t at : ℕ) (e : Entry) : Type 0 where
  pub ref : ℕ
  pub below : at + 4 ≤ t
  pub kind : get_or w at 0 ≡ kind_of (key_of e)
  pub name : get_or w (at + 1) 0 ≡ name_of (key_of e)
  pub ref_is : get_or w (at + 2) 0 ≡ ref
  pub den : Den q w t ref (held e)

-- they were put there
abbrev pub PutEntry : List ℕ → List ℕ → ℕ → program.Entry → Type 0
PutEntry w w' at p = Put4 w w' at (kind_of (key p.key)) (name_of (key p.key)) p.ty 0

pub data CtxAt (q w : List ℕ) (t : ℕ) : ℕ → Ctx → Type 0 where
  nil : {at : ℕ} → CtxAt q w t at []
  cons : {at : ℕ} {e : Entry} {Γ : Ctx} → EntryAt q w t at e → CtxAt q w t (at + 4) Γ → CtxAt q w t at (e ∷ Γ)

-- the run of n entries from a place on is the context Γ
pub record Run (q w : List ℕ) (t at n : ℕ) (Γ : Ctx) : Type 0 where
  pub ctx : CtxAt q w t at Γ
  pub count : n ≡ length Γ
  pub below : at + 4 * n ≤ t

-- the bottom of work: the records of Int and Bool, and the place past each item of the question, of a type with the monotype mark
pub record Base (q w : List ℕ) (t : ℕ) : Type 0 where
  pub floor : FLOOR ≤ t
  pub int_is : get_or w 0 0 ≡ with_mono 1 true
  pub bool_is : get_or w 1 0 ≡ with_mono 2 true
  pub end_ty : (p : ℕ) (A : Ty) → TyAt q p A → get_or w (ENDS + p) 0 ≡ with_mono (p + size A) (is_mono A)
  pub past_expr : (p : ℕ) (e : Expr) → ExprAt q p e → past w p ≡ p + expr_size e
