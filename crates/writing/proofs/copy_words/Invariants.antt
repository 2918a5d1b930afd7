-- `copy_words` meets its contract.
use Rattle.writing.proofs.Copying.{PutFirst}
use Rattle.writing.proofs.copy_words.Given as goal

abbrev pub invariant-loop-i : goal.invariant-loop-i
invariant-loop-i l = PutFirst l.src l.initial.report l.report l.at l.i
