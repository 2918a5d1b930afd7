-- The measure of `occurs_check`: the rank of the reference falls.
use Rattle.types.specs.Reading.{rank}
use Rattle.walks.proofs.+occurs_check.Given as goal

abbrev pub decreases-occurs_check : goal.decreases-occurs_check
decreases-occurs_check l = rank l.r
