-- What falls from call to call of the cycle of subtype: three times the budget left, and one more for each step on the way to a judgement.
use Prim.Native.Nat.{◌+◌, ◌*◌}
use Rattle.subtyping.proofs.+subtype_and_rules.Given as goal

abbrev pub decreases-sub_all : goal.decreases-sub_all
decreases-sub_all l = 3 * l.st.left + 1

abbrev pub decreases-sub_arr : goal.decreases-sub_arr
decreases-sub_arr l = 3 * l.st.left + 1

abbrev pub decreases-sub_rule : goal.decreases-sub_rule
decreases-sub_rule l = 3 * l.st.left + 2

abbrev pub decreases-subtype : goal.decreases-subtype
decreases-subtype l = 3 * l.st.left
