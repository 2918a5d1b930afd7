-- The measure of `read_type`: the words left.
use Prim.Native.Nat.{◌-◌}
use Rattle.reading.proofs.+read_type.Given as goal

abbrev pub decreases-read_type : goal.decreases-read_type
decreases-read_type l = l.end - l.p
