-- What `same_var` keeps: no pair that was passed has one of the two names.
use Rattle.walks.proofs.Letters.{Outer}
use Rattle.walks.proofs.same_var.Given as goal

abbrev pub invariant-loop-i : goal.invariant-loop-i
invariant-loop-i l = Outer l.work l.top l.n l.p.a.0 l.p.b.0 l.i
