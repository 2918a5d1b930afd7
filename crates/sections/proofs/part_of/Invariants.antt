-- `part_of` meets its contract: after so many turns the bounds are those of that section.
use mathlib.Core.Path.{◌≡◌}
use Prim.Native.Nat.{◌≤◌}
use lib.ListN.{take}
use Rattle.sections.specs.Sections.{bounds_of}
use Rattle.sections.proofs.part_of.Given as goal

abbrev pub invariant-loop : goal.invariant-loop
invariant-loop l = (bounds_of l.counter (take l.n l.report) ≡ (l.b.from, l.b.to)) × (l.b.from ≤ l.b.to) × (l.b.to ≤ l.n)
