-- What stands in a type's record in work, which is at its reference less 2048.
use mathlib.Core.Path.{◌≡◌}
use mathlib.Core.List.{List}
use Prim.Native.Nat.{ℕ, ◌+◌, ◌-◌, ◌≤◌, ◌<◌}
use native.Mathlib.Omega.{arith}
use lib.ListN.{get_or}
use Rattle.definition.specs.Syntax.{TyVar, Ty, arrow, forall}
use Rattle.definition.specs.Types.{is_mono}
use Rattle.definition.specs.Rules.{ty_code}
use Rattle.layout.specs.Sizes.{BASE}
use Rattle.layout.specs.Monotypes.{number_at}
use Rattle.layout.specs.Places.{size, TyAt}
use Rattle.layout.specs.Denotes.{capped, MadeAt, Den, written, int_made, bool_made, etvar_made, arrow_made, forall_made}
use Rattle.layout.proofs.Places.{code_small, ty_code_lem}
use Rattle.layout.proofs.Monotypes.{kept_number}
use Rattle.types.specs.Reading.{record_size, PartBelow}
use Rattle.types.proofs.Codes.{Naming, etvar_names, forall_names}

-- a record of n words whose first keeps the code k stands at place i
pub record RecordAt (w : List ℕ) (t i n k : ℕ) : Type 0 where
  pub end : i + n ≤ t
  pub code : number_at w i ≡ k

place_is : {w : List ℕ} {t r i n : ℕ} {T : Ty} → MadeAt w t r i n T → r - BASE ≡ i
place_is m = omega (arith, m.ref)

record_at : {w : List ℕ} {t r i n : ℕ} {T : Ty} → MadeAt w t r i n T → RecordAt w t (r - BASE) n (ty_code T)
record_at {T = T} m = rw (place_is m) (record { end = m.below; code = kept_number (ty_code T) (is_mono T) m.is (code_small T) })

not_written : {q : List ℕ} {r : ℕ} {T : Ty} → BASE ≤ r → TyAt q r T → ⊥
not_written h d = let c = ty_code_lem d in omega (arith, c.inside)

module _ {q w : List ℕ} {t r : ℕ} (h : BASE ≤ r) where
  pub made_record : {T : Ty} → Den q w t r T → RecordAt w t (r - BASE) (record_size T) (ty_code T)
  unfolding record_size
  made_record (written d) = absurd (not_written h d)
  made_record (int_made m) = record_at m
  made_record (bool_made m) = record_at m
  made_record (etvar_made m n) = record_at m
  made_record (arrow_made m x y f g s d e) = record_at m
  made_record (forall_made m y n g s d) = record_at m

  pub made_length : {T : Ty} → 5 ≤ ty_code T → Den q w t r T → get_or w (r - BASE + 3) 0 ≡ capped (size T)
  unfolding ty_code
  made_length l (written d) = absurd (not_written h d)
  made_length l (int_made m) = absurd (omega arith)
  made_length l (bool_made m) = absurd (omega arith)
  made_length l (etvar_made m n) = absurd (omega arith)
  made_length l (arrow_made m x y f g s d e) = rw (place_is m) s
  made_length l (forall_made m y n g s d) = rw (place_is m) s

  pub made_name : {T : Ty} {b : TyVar} → Naming T b → Den q w t r T → get_or w (r - BASE + 1) 0 ≡ b.number
  made_name n (written d) = absurd (not_written h d)
  made_name n (int_made m) = elim n [ ]
  made_name n (bool_made m) = elim n [ ]
  made_name n (arrow_made m x y f g s d e) = elim n [ ]
  made_name etvar_names (etvar_made m n) = rw (place_is m) n
  made_name forall_names (forall_made m y n g s d) = rw (place_is m) n

  part_before : {m k : ℕ} {A : Ty} → k ≡ m → m < r → Den q w t m A → PartBelow q w t r k A
  part_before e l d = rw e (record { den = d; less = omega arith })

  pub made_left : {A B : Ty} → Den q w t r (arrow A B) → PartBelow q w t r (get_or w (r - BASE + 1) 0) A
  made_left (written d) = absurd (not_written h d)
  made_left (arrow_made m x y f g s d e) = rw (place_is m) (part_before f x d)

  pub made_right : {A B : Ty} → Den q w t r (arrow A B) → PartBelow q w t r (get_or w (r - BASE + 2) 0) B
  made_right (written d) = absurd (not_written h d)
  made_right (arrow_made m x y f g s d e) = rw (place_is m) (part_before g y e)

  pub made_body : {a : TyVar} {A : Ty} → Den q w t r (forall a A) → PartBelow q w t r (get_or w (r - BASE + 2) 0) A
  made_body (written d) = absurd (not_written h d)
  made_body (forall_made m y n g s d) = rw (place_is m) (part_before g y d)
