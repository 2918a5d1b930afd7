-- The codes of type errors lie from 11 to the last: none is a refusal's, and none is NoRoom's.
use mathlib.Core.Path.{◌≡◌}
use mathlib.Core.Bool.{false}
use mathlib.Core.Logic.{◌≢◌}
use Prim.Native.Nat.{ℕ, ◌≤◌, ◌<◌}
use native.Mathlib.Omega.{arith}
use lib.Dec.{leb, eqb, le→leb}
use mir.Facts.{no_leb, no_eqb}
use Rattle.definition.specs.Syntax.{Error, UnboundVariable, ApplicationTypeError, TypeApplicationError, OccursCheck, SubtypingError, InstantiationError, ParameterMismatch}
use Rattle.definition.specs.Reply.{error_code, last_error}
use Rattle.laws.specs.Codes.{Late}
use Rattle.laws.proofs.Steps.{is_true, is_false}

pub record IsError (c : ℕ) : Type 0 where
  pub least : 11 ≤ c
  pub most : c ≤ last_error

pub error : (e : Error) → IsError (error_code e)
unfolding error_code
error UnboundVariable = record { least = omega arith; most = omega arith }
error ApplicationTypeError = record { least = omega arith; most = omega arith }
error TypeApplicationError = record { least = omega arith; most = omega arith }
error OccursCheck = record { least = omega arith; most = omega arith }
error SubtypingError = record { least = omega arith; most = omega arith }
error InstantiationError = record { least = omega arith; most = omega arith }
error ParameterMismatch = record { least = omega arith; most = omega arith }

pub error_late : {c : ℕ} → IsError c → Late c
error_late {c} h =
    let high : 5 < c = omega (arith, h.least) in
    rw (is_true (leb 1 c) (le→leb 1 c (omega (arith, h.least))), is_false (leb c 5) (no_leb high))

pub not_seven : {c : ℕ} → IsError c → eqb c 7 ≡ false
not_seven {c} h = let other : c ≢ 7 = λ e. omega (arith, h.least, e) in is_false (eqb c 7) (no_eqb other)
