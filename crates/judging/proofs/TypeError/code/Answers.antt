-- `code` meets its contract.
use Rattle.std.proofs.Common.{rules}
use Rattle.definition.specs.Reply.{error_code}
use Rattle.judging.proofs.TypeError.code.Goals as goal

pub returns : goal.returns
unfolding error_code
returns c = search rules
