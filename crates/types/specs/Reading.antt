-- Reading a type by reference: what a reader may rely on, and what it gives for every type that the reference denotes.
use Rattle.std.specs.Prelude.{◌≡◌, Bool, List, ℕ, ◌+◌, ◌-◌, ◌*◌, ◌≤◌, ◌<◌, ◌^◌, length, take, drop}
use Rattle.definition.specs.Syntax as syntax
use Rattle.definition.specs.Syntax.{Ty, int, bool, var, etvar, arrow, forall}
use Rattle.definition.specs.Types.{is_mono}
use Rattle.definition.specs.Rules.{ty_code}
use Rattle.layout.specs.Sizes.{BASE, CAP}
use Rattle.layout.specs.Names.{ty}
use Rattle.layout.specs.Places.{size}
use Rattle.layout.specs.Denotes.{capped, Den, Base}
use Rattle.layout.specs.declared.TyVar.{TyVar}
use Rattle.types.specs.declared.Form.{Form}

-- ## What a reader may rely on

-- the reference r can be read: it denotes a type
pub record Held (q w : List ℕ) (t r : ℕ) : Type 0 where
  pub base : Base q w t
  pub fits : t ≤ length w
  pub cap : length w ≤ CAP
  pub type : Ty
  pub den : Den q w t r type

-- it denotes a type of code k
pub record HeldAs (q w : List ℕ) (t r k : ℕ) : Type 0 where
  pub held : Held q w t r
  pub code : ty_code held.type ≡ k

-- it denotes a type that begins with a name: Var, ETVar or Forall
pub record HeldNamed (q w : List ℕ) (t r : ℕ) : Type 0 where
  pub held : Held q w t r
  pub low : 3 ≤ ty_code held.type
  pub other : ty_code held.type ≡ 5 → ⊥

-- ## Code, monotype mark and name

pub record Tagged (q w : List ℕ) (t r k : ℕ) : Type 0 where
  pub is : (T : Ty) → Den q w t r T → k ≡ ty_code T

-- a form's number is the code of the types of that form
abbrev pub form_number : Form → ℕ
form_number Form.Int = 1
form_number Form.Bool = 2
form_number Form.Var = 3
form_number Form.ETVar = 4
form_number Form.Arrow = 5
form_number Form.Forall = 6

abbrev pub FormOf : List ℕ → List ℕ → ℕ → ℕ → Form → Type 0
FormOf q w t r f = Tagged q w t r (form_number f)

pub record Mono (q w : List ℕ) (t r : ℕ) (b : Bool) : Type 0 where
  pub is : (T : Ty) → Den q w t r T → b ≡ is_mono T

pub record Named (q w : List ℕ) (t r : ℕ) (a : TyVar) : Type 0 where
  pub of_var : (b : syntax.TyVar) → Den q w t r (var b) → ty a ≡ b
  pub of_etvar : (b : syntax.TyVar) → Den q w t r (etvar b) → ty a ≡ b
  pub of_forall : (b : syntax.TyVar) (A : Ty) → Den q w t r (forall b A) → ty a ≡ b

-- ## Parts

-- what falls from a type to its parts: references in the question go up, those in work down, and into the question
abbrev pub rank : ℕ → ℕ
rank r = (2048 - r) + 4096 * (r - 2047)

-- k denotes A, a part of what r denotes
pub record PartBelow (q w : List ℕ) (t r k : ℕ) (A : Ty) : Type 0 where
  pub den : Den q w t k A
  pub less : rank k < rank r

pub record LeftOf (q w : List ℕ) (t r k : ℕ) : Type 0 where
  pub is : (A B : Ty) → Den q w t r (arrow A B) → PartBelow q w t r k A

pub record RightOf (q w : List ℕ) (t r k : ℕ) : Type 0 where
  pub is : (A B : Ty) → Den q w t r (arrow A B) → PartBelow q w t r k B

pub record BodyOf (q w : List ℕ) (t r k : ℕ) : Type 0 where
  pub is : (a : syntax.TyVar) (A : Ty) → Den q w t r (forall a A) → PartBelow q w t r k A

-- ## Lengths and words

-- the type's length in words, stopping at the largest word
pub record LengthOf (q w : List ℕ) (t r n : ℕ) : Type 0 where
  pub is : (T : Ty) → Den q w t r T → n ≡ capped (size T)
  pub word : n < 2 ^ 32

-- how many words a type's record has
unfoldable pub record_size : Ty → ℕ
record_size int = 1
record_size bool = 1
record_size (var a) = 2
record_size (etvar a) = 2
record_size (arrow A B) = 4
record_size (forall a A) = 4

pub record RecordLength (k n : ℕ) : Type 0 where
  pub is : (T : Ty) → k ≡ ty_code T → n ≡ record_size T

-- the part of the question that the type fills (its words: proofs/Words), or its record in work
pub record WordsOf (q w : List ℕ) (t r : ℕ) (ws : List ℕ) : Type 0 where
  pub in_question : r < BASE → (T : Ty) → Den q w t r T → ws ≡ take (size T) (drop r q)
  pub in_work : BASE ≤ r → (T : Ty) → Den q w t r T → ws ≡ take (record_size T) (drop (r - BASE) w)
