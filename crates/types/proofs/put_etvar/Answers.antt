-- `put_etvar` meets its contract.
use mathlib.Core.Path.{refl}
use Rattle.layout.proofs.Denotes.{etvar_put}
use Rattle.types.proofs.put_etvar.Goals as goal

pub returns : goal.returns
returns c =
    record { keep = c.put2.ensures.keep; ref = refl; den = λ q. etvar_put _ refl (rw c.with_mono.ensures.0 at c.put2.ensures) }
