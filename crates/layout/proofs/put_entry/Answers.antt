-- `put_entry` meets its contract.
use native.Mathlib.Omega.{arith}
use Rattle.layout.specs.Names.{key}
use Rattle.layout.proofs.Denotes.{kind_small}
use Rattle.layout.proofs.put_entry.Goals as goal

pub put4-requires : goal.put4-requires
put4-requires c = omega (arith, c.kind.ensures, kind_small (key c.args.e.key))
