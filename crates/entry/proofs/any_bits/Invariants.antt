-- `any_bits` meets its contract.
use mathlib.Core.Path.{◌≡◌}
use mathlib.Core.List.{◌++◌}
use lib.ListN.{length, drop, replicate}
use Rattle.entry.proofs.any_bits.Given as goal

abbrev pub invariant-loop-word : goal.invariant-loop-word
invariant-loop-word l =
    (l.bits ≡ 0 → l.block ≡ replicate l.word-index 0 ++ drop l.word-index l.block) × (l.block ≡ replicate (length l.block) 0 → l.bits ≡ 0)
