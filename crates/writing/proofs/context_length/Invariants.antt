-- `context_length` meets its contract.
use Rattle.writing.specs.Contexts.{OfContext}
use Rattle.writing.proofs.Loops.{Summing}
use Rattle.writing.proofs.Contexts.{EntriesFrom}
use Rattle.writing.proofs.context_length.Given as goal

abbrev pub invariant-loop-k : goal.invariant-loop-k
invariant-loop-k l =
    let q = l.store.q.now in
    let w = l.store.work.now in
    let t = l.store.top in
    Summing q w t (OfContext q w t l.g) (EntriesFrom q w t l.g l.k) l.total
