-- `word_at` meets its contract.
use native.Mathlib.Omega.{arith}
use Rattle.definition.specs.Host.{word_at}
use Rattle.wire.proofs.word_at.Goals as goal

pub returns : goal.returns
unfolding word_at
returns c = omega (arith, c.from_le_bytes.ensures)
