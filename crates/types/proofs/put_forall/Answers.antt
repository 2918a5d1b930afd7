-- `put_forall` meets its contract.
use native.Mathlib.Omega.{arith}
use mathlib.Core.Path.{refl}
use Rattle.layout.specs.Names.{ty}
use Rattle.layout.proofs.Denotes.{forall_put}
use Rattle.types.proofs.put_forall.Goals as goal

pub returns : goal.returns
returns c =
    record {
      keep = c.put4.ensures.keep;
      ref = refl;
      den = λ A d. forall_put (ty c.args.a) refl (rw c.with_mono.ensures.0 at
          c.put4.ensures) (omega (arith, c.sum_to-length.ensures, c.type_length.ensures.is A d)) d;
    }
