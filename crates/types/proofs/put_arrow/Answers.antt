-- `put_arrow` meets its contract.
use native.Mathlib.Omega.{arith}
use mathlib.Core.Path.{refl}
use Rattle.layout.proofs.Denotes.{den_small, arrow_put}
use Rattle.types.proofs.Reading.{arrow_mono}
use Rattle.types.proofs.put_arrow.Goals as goal

pub put4-requires : goal.put4-requires
put4-requires c = omega (arith, den_small)

pub returns : goal.returns
returns c =
    record {
      keep = c.put4.ensures.keep;
      ref = refl;
      den = λ A B d e. arrow_put (arrow_mono c.is_mono.ensures c.is_mono-2.ensures
          d e) (rw c.with_mono-head.ensures.0 at c.put4.ensures) (omega (
            arith,
            c.sum_to-length.ensures,
            c.sum_to-parts.ensures,
            c.type_length.ensures.is A d,
            c.type_length-2.ensures.is B e,
          )) d e;
    }
