-- What falls from call to call of the cycle of infer, check and infer_app: three times the budget left, and one more for each step from a
-- judgement to its rule (2) and the rule's own function (1).
use Prim.Native.Nat.{◌+◌, ◌*◌}
use Rattle.inference.proofs.+infer_check_infer_app.Given as goal

abbrev pub decreases-app_arr : goal.decreases-app_arr
decreases-app_arr l = 3 * l.st.left + 1

abbrev pub decreases-app_etvar : goal.decreases-app_etvar
decreases-app_etvar l = 3 * l.st.left + 1

abbrev pub decreases-app_rule : goal.decreases-app_rule
decreases-app_rule l = 3 * l.st.left + 2

abbrev pub decreases-check : goal.decreases-check
decreases-check l = 3 * l.st.left

abbrev pub decreases-chk_all : goal.decreases-chk_all
decreases-chk_all l = 3 * l.st.left + 1

abbrev pub decreases-chk_lam : goal.decreases-chk_lam
decreases-chk_lam l = 3 * l.st.left + 1

abbrev pub decreases-chk_rule : goal.decreases-chk_rule
decreases-chk_rule l = 3 * l.st.left + 2

abbrev pub decreases-chk_sub : goal.decreases-chk_sub
decreases-chk_sub l = 3 * l.st.left + 1

abbrev pub decreases-infer : goal.decreases-infer
decreases-infer l = 3 * l.st.left

abbrev pub decreases-infer_abs : goal.decreases-infer_abs
decreases-infer_abs l = 3 * l.st.left + 1

abbrev pub decreases-infer_ann : goal.decreases-infer_ann
decreases-infer_ann l = 3 * l.st.left + 1

abbrev pub decreases-infer_app : goal.decreases-infer_app
decreases-infer_app l = 3 * l.st.left

abbrev pub decreases-infer_application : goal.decreases-infer_application
decreases-infer_application l = 3 * l.st.left + 1

abbrev pub decreases-infer_binop : goal.decreases-infer_binop
decreases-infer_binop l = 3 * l.st.left + 1

abbrev pub decreases-infer_if : goal.decreases-infer_if
decreases-infer_if l = 3 * l.st.left + 1

abbrev pub decreases-infer_let : goal.decreases-infer_let
decreases-infer_let l = 3 * l.st.left + 1

abbrev pub decreases-inf_rule : goal.decreases-inf_rule
decreases-inf_rule l = 3 * l.st.left + 2

abbrev pub decreases-infer_tabs : goal.decreases-infer_tabs
decreases-infer_tabs l = 3 * l.st.left + 1

abbrev pub decreases-infer_tapp : goal.decreases-infer_tapp
decreases-infer_tapp l = 3 * l.st.left + 1
