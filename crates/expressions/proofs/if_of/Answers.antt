-- `if_of` meets its contract.
use Rattle.expressions.proofs.Forms.{if_table₂}
use Rattle.expressions.proofs.if_of.Goals as goal

pub past-requires : goal.past-requires
past-requires c = search if_table₂
