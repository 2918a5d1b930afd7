-- `read_words` meets its contract.
use mathlib.Core.Path.{◌≡◌}
use mathlib.Core.List.{◌++◌}
use lib.ListN.{drop}
use Rattle.definition.specs.Host.{words_of}
use Rattle.wire.proofs.read_words.Given as goal

abbrev pub invariant-loop-i : goal.invariant-loop-i
invariant-loop-i l = l.w-items ≡ words_of l.b l.i ++ drop l.i l.initial.w-items
