-- What falls from call to call of the cycle of inst_l and inst_r: five times the budget left, and one more for each step on the way to a
-- judgement.
use Prim.Native.Nat.{◌+◌, ◌*◌}
use Rattle.instantiation.proofs.+inst_l_inst_r.Given as goal

abbrev pub decreases-inst : goal.decreases-inst
decreases-inst l = 5 * l.st.left

abbrev pub decreases-inst_all : goal.decreases-inst_all
decreases-inst_all l = 5 * l.st.left + 3

abbrev pub decreases-inst_arr : goal.decreases-inst_arr
decreases-inst_arr l = 5 * l.st.left + 3

abbrev pub decreases-inst_l : goal.decreases-inst_l
decreases-inst_l l = 5 * l.st.left + 1

abbrev pub decreases-inst_r : goal.decreases-inst_r
decreases-inst_r l = 5 * l.st.left + 1

abbrev pub decreases-inst_rule : goal.decreases-inst_rule
decreases-inst_rule l = 5 * l.st.left + 4

abbrev pub decreases-inst_on : goal.decreases-inst_on
decreases-inst_on l = 5 * l.st.left + 2
