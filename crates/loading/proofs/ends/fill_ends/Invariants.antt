-- What `fill_ends` keeps: the table from p on is laid, and nothing past it changed.
use Rattle.layout.specs.Sizes.{ENDS, FLOOR}
use Rattle.layout.specs.Words.{Keep}
use Rattle.loading.specs.Table.{Table}
use Rattle.loading.proofs.ends.fill_ends.Given as goal

abbrev pub invariant-loop-p : goal.invariant-loop-p
invariant-loop-p l = record {
  keep : Keep ENDS FLOOR l.initial.work l.work;
  table : Table l.q l.work l.p;
}
