-- `lam_in` meets its contract.
use mathlib.Core.Path.{refl}
use native.Mathlib.Omega.{arith}
use Rattle.rules.proofs.Before.{lam_arrow, lam_space, lam_opened}
use Rattle.rules.proofs.lam_in.Goals as goal

pub put_arrow-ty-requires : goal.put_arrow-ty-requires
put_arrow-ty-requires c = search lam_arrow

pub push-o-requires : goal.push-o-requires
push-o-requires c = (
  omega arith,
  lam_space c.requires c.put_etvar-b.ensures c.put_arrow-ty.ensures c.draw-one.ensures c.raise.ensures c.entry-e.ensures c.entry-e2.ensures,
)

pub returns : goal.returns
returns c =
    lam_opened c.requires c.put_etvar-b.ensures c.put_arrow-ty.ensures c.draw-one.ensures c.raise.ensures c.entry-e.ensures c.entry-e2.ensures
    refl c.push-o.ensures
