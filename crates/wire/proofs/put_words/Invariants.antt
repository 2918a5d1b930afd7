-- `put_words` meets its contract.
use mathlib.Core.Path.{◌≡◌}
use Prim.Native.Nat.{◌*◌}
use lib.Seq.{paste}
use Rattle.definition.specs.Host.{bytes_of}
use Rattle.wire.proofs.put_words.Given as goal

abbrev pub invariant-loop-i : goal.invariant-loop-i
invariant-loop-i l = l.dst ≡ paste l.initial.dst l.at (bytes_of l.ws) (4 * l.i)
