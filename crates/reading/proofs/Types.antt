-- Reading a type, code by code.
use Prim.Native.Nat.{ℕ, ◌+◌, ◌≤◌, ◌<◌}
use mathlib.Core.Path.{◌≡◌, refl, ◌∙◌}
use mathlib.Core.List.{List}
use native.Mathlib.Omega.{arith}
use Rattle.definition.specs.Syntax.{pick, int, bool, var, etvar, arrow, forall}
use Rattle.definition.specs.Question as definition
use Rattle.definition.specs.Question.{◌>>=◌, give, written, row, ty_rows, type}
use Rattle.layout.specs.Places.{int_at, bool_at, var_at, etvar_at, arrow_at, forall_at}
use Rattle.std.specs.Prelude.{Result, Ok, Err}
use Rattle.reading.specs.declared.Fault.{Fault}
use Rattle.reading.specs.Faults.{bad_shape}
use Rattle.reading.specs.Items.{from, Inside, TyTo, past, refused, Word, NameRead, TypeRead}
use Rattle.reading.proofs.Depth.{written_upto, type_eq}
use Rattle.reading.proofs.Items.{TypeThen, one_or, one_of_end, one_of_is, one_of_none, reads_at, reads_map, reads_two, code_at, after_word, type_name_read}

pub type_end : {q : List ℕ} {p e : ℕ} {f : Fault} → Inside q p e → (e ≤ p) × (f ≡ bad_shape p) → TypeRead q p e (Err f)
type_end {q} {p} {e} i h = rw h.1 (reads_at (type_eq written_upto p _ ∙ one_of_end _ q p e h.0) (refused i.low))

module _ {q : List ℕ} {p e : ℕ} (i : Inside q p e) {w : ℕ} (h : Word q p e w) where
  -- the row of the code that stands at p
  type_row : {k : ℕ} → w ≡ k → type written p (from q p e) ≡ row k (ty_rows written (type written)) (definition.bad_shape p) (p + 1) (from q (p + 1) e)
  type_row k = type_eq written_upto p _ ∙ one_of_is _ q p e i.high h k

  type_int : w ≡ 1 → TypeRead q p e (Ok (p + 1))
  unfolding row pick ty_rows give
  type_int k =
      let s : TyTo q p int (p + 1) = record { at = int_at (code_at i h k); to = refl } in
      reads_at (type_row k) (past s (omega arith))

  type_bool : w ≡ 2 → TypeRead q p e (Ok (p + 1))
  unfolding row pick ty_rows give
  type_bool k =
      let s : TyTo q p bool (p + 1) = record { at = bool_at (code_at i h k); to = refl } in
      reads_at (type_row k) (past s (omega arith))

  pub type_base : ((w ≡ 1 → ⊥) → w ≡ 2) → TypeRead q p e (Ok (p + 1))
  type_base k = one_or k type_int type_bool

  module _ {r : Result ℕ Fault} (x : NameRead q (p + 1) e r) where
    type_var : w ≡ 3 → TypeRead q p e r
    unfolding row pick ty_rows ◌>>=◌
    type_var k =
        reads_at (type_row k)
        (reads_map var (λ a m s. record { at = var_at (code_at i h k) s.at; to = omega arith }) (type_name_read x))

    type_etvar : w ≡ 4 → TypeRead q p e r
    unfolding row pick ty_rows ◌>>=◌
    type_etvar k =
        reads_at (type_row k)
        (reads_map etvar (λ a m s. record { at = etvar_at (code_at i h k) s.at; to = omega arith }) (type_name_read x))

    pub type_named : ((w ≡ 3 → ⊥) → w ≡ 4) → TypeRead q p e r
    type_named k = one_or k type_var type_etvar

    pub type_forall : {r' : Result ℕ Fault} → w ≡ 6 → TypeThen q e r r' → TypeRead q p e r'
    unfolding row pick ty_rows ◌>>=◌
    type_forall k y =
        reads_at (type_row k)
        (reads_two forall
        (λ a A m n s t. record { at = forall_at (code_at i h k) s.at (rw (after_word p s) at t.at); to = omega arith })
        (type_name_read x) y)

  pub type_arrow : {r r' : Result ℕ Fault} → w ≡ 5 → TypeRead q (p + 1) e r → TypeThen q e r r' → TypeRead q p e r'
  unfolding row pick ty_rows ◌>>=◌
  type_arrow k x y =
      reads_at (type_row k)
      (reads_two arrow
      (λ A B m n s t. record { at = arrow_at (code_at i h k) s.at s.to t.at; to = omega arith }) x y)

  pub type_none : {f : Fault} → (1 ≤ w → 6 < w) → f ≡ bad_shape p → TypeRead q p e (Err f)
  unfolding ty_rows
  type_none n k =
      rw k
      (reads_at (type_eq written_upto p _ ∙ one_of_none _ q p e i.high h
      (((((((tt, (λ k. omega arith)), (λ k. omega arith)), (λ k. omega arith)), (λ k. omega arith)), (λ k. omega arith)), (λ k. omega arith))))
      (refused i.low))
