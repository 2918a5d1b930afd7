-- `word` meets its contract.
use native.Mathlib.Omega.{arith}
use mathlib.Core.Path.{refl}
use Rattle.layout.proofs.word.Goals as goal

pub returns : goal.returns
returns c = (refl, omega (arith, c.type_inv.s c.args.i))

pub overflow_cast-result : goal.overflow_cast-result
overflow_cast-result c = omega (arith, c.type_inv.s c.args.i)
