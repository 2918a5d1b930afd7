-- The measure of `same_type`: the rank of the first reference falls.
use Rattle.types.specs.Reading.{rank}
use Rattle.walks.proofs.+same_type.Given as goal

abbrev pub decreases-same_type : goal.decreases-same_type
decreases-same_type l = rank l.r
