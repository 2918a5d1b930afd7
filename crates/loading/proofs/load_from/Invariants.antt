-- What `load_from` keeps: the entries that are left can be loaded, and once they are, so are all.
use mathlib.Core.List.{List}
use Prim.Native.Nat.{ℕ, ◌+◌, ◌-◌, ◌*◌}
use Rattle.loading.specs.Loading.{Loads, LoadedFrom}
use Rattle.loading.proofs.load_from.Given as goal

abbrev pub invariant-loop-i : goal.invariant-loop-i
invariant-loop-i l = record {
  left : Loads l.q l.work l.next (l.at + 4 * l.i) (l.n - l.i);
  whole : (w : List ℕ) → LoadedFrom l.q l.work w l.next (l.at + 4 * l.i) (l.n - l.i) → LoadedFrom l.q l.initial.work w l.p l.at l.n;
}
