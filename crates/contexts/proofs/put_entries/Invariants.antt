-- `put_entries` meets its contract: the entries passed stand there.
use lib.ListN.{take}
use Rattle.contexts.specs.Build.{Put}
use Rattle.contexts.proofs.put_entries.Given as goal

abbrev pub invariant-loop-i : goal.invariant-loop-i
invariant-loop-i g l = Put l.initial.work l.work l.at (take l.i l.fn.es)
