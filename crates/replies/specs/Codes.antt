-- The codes of replies that are no type error and no fault of the question, by their numbers.
use Rattle.std.specs.Prelude.{ℕ}
use Rattle.replies.specs.declared.Code.{Code}
use Rattle.replies.specs.declared.Code.TheVariants.{BadBudget, ShortWork, BadLength, Budget, NoRoom}

abbrev pub code_number : Code → ℕ
code_number BadBudget = 1
code_number ShortWork = 2
code_number BadLength = 3
code_number Budget = 6
code_number NoRoom = 7
