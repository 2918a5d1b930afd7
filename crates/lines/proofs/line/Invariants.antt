-- `line`: what is yet to write, written where the loop stands, makes the whole line.
use mathlib.Core.List.{List, [], ◌∷◌, ◌++◌}
use Prim.Native.Nat.{ℕ, ◌+◌, ◌*◌, ◌≤◌}
use lib.ListN.{drop}
use Rattle.lines.specs.Lines.{line_of, PutBytes}
use Rattle.lines.proofs.line.Given as goal

abbrev pub invariant-loop-w : goal.invariant-loop-w
invariant-loop-w l =
    (l.at ≤ l.from + 11 * l.w-index)
    × ((s : List ℕ) (z : ℕ) → PutBytes l.out s l.at (line_of (drop l.w-index l.rest ++ (l.last ∷ []))) z → PutBytes l.initial.out s l.from (line_of l.ws) z)
