-- `write_context` meets its contract.
use Rattle.writing.specs.Contexts.{OfContext}
use Rattle.writing.proofs.Loops.{Putting}
use Rattle.writing.proofs.Contexts.{EntriesFrom}
use Rattle.writing.proofs.write_context.Given as goal

abbrev pub invariant-loop-k : goal.invariant-loop-k
invariant-loop-k l =
    let q = l.store.q.now in
    let w = l.store.work.now in
    let t = l.store.top in
    Putting q w t (OfContext q w t l.g) l.initial.report l.initial.next (EntriesFrom q w t l.g l.k) l.report l.next
