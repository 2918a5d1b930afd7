-- The cycle of infer, check and infer_app meets its contracts.
use native.Mathlib.Omega.{arith}
use Prim.Native.Nat.{ℕ}
use borrow.Author.Rules.{rules}
use Rattle.expressions.specs.Forms.{an_ann, a_tapp}
use Rattle.judging.specs.Ending.{Judged}
use Rattle.judging.proofs.Whole.{whole_spent, whole_rule, whole_less, whole_leave, whole_left}
use Rattle.rules.proofs.Standing.{infer_shaped}
use Rattle.judging.proofs.Steps.{stop_is}
use Rattle.inference.proofs.Premise.{unless, may_ask, space_back}
use Rattle.inference.proofs.Choosing.{check_within, of_literal}
use Rattle.inference.proofs.Applying.{arr_held, arr_asks, arr_done, etvar_held, etvar_asks, etvar_done}
use Rattle.inference.proofs.Checking.{lam_shaped, lam_held, lam_two, lam_end, lam_space, lam_asks, lam_done, all_pre, all_asks, all_done, sub_asks, sub_two, sub_unless, sub_done}
use Rattle.inference.proofs.InferOne.{ann_asks, ann_done, abs_lam, abs_asks, abs_done, tabs_space, tabs_asks, tabs_apply, tabs_spent, tabs_pre, tabs_done, tapp_asks, tapp_two, tapp_end, tapp_done}
use Rattle.inference.proofs.InferTwo.{app_asks, app_apply, app_spent, app_asks₂, app_done, let_asks, let_space, let_asks₂, let_done, left_ask, op_asks, op_asks₂, op_done}
use Rattle.inference.proofs.InferIf.{if_asks, if_asks₂, if_asks₃, if_two, if_unless, if_done}
use Rattle.inference.proofs.+infer_check_infer_app.Goals.{infer_binop-Joined-sides, infer_binop-in-Some, infer_binop-in-None}
use Rattle.inference.proofs.+infer_check_infer_app.Goals as goal

-- ## `app_arr`: InfAppArr.

pub app_arr-left_of-a-requires : goal.app_arr-left_of-a-requires
app_arr-left_of-a-requires t c = arr_held c.args.h c.requires

pub app_arr-right_of-c-requires : goal.app_arr-right_of-c-requires
app_arr-right_of-c-requires t c = arr_held c.args.h c.requires

pub app_arr-check-requires : goal.app_arr-check-requires
app_arr-check-requires t c = may_ask (arr_asks c.args.h c.requires c.left_of-a.ensures c.right_of-c.ensures) c.decreases

pub app_arr-returns-in_err-r : goal.app_arr-returns-in_err-r
app_arr-returns-in_err-r t c =
    unless (arr_asks c.args.h c.requires c.left_of-a.ensures c.right_of-c.ensures) c.check.ensures c.in_err-r.was c.from_residual.ensures.1

pub app_arr-returns : goal.app_arr-returns
app_arr-returns t c = arr_done c.args.h c.requires c.left_of-a.ensures c.right_of-c.ensures c.check.ensures c.in_ok-r.was c.plain_out.ensures

-- ## `app_etvar`: InfAppETVar.

pub app_etvar-name_of-a-requires : goal.app_etvar-name_of-a-requires
app_etvar-name_of-a-requires t c = etvar_held c.args.h c.requires

pub app_etvar-check-requires : goal.app_etvar-check-requires
app_etvar-check-requires t c = may_ask (etvar_asks c.args.h c.requires c.name_of-a.ensures c.part-o.ensures) c.decreases

pub app_etvar-returns-in_err-r : goal.app_etvar-returns-in_err-r
app_etvar-returns-in_err-r t c =
    unless (etvar_asks c.args.h c.requires c.name_of-a.ensures c.part-o.ensures) c.check.ensures c.in_err-r.was c.from_residual.ensures.1

pub app_etvar-returns : goal.app_etvar-returns
app_etvar-returns t c = etvar_done c.args.h c.requires c.name_of-a.ensures c.part-o.ensures c.check.ensures c.in_ok-r.was c.plain_out.ensures

-- ## `check`: entering, its rule, leaving.

pub check-returns-in_err-inner : goal.check-returns-in_err-inner
check-returns-in_err-inner t c = rw (stop_is _ c.from_residual.ensures.1) (whole_spent c.enter.ensures c.in_err-inner.was)

pub check-chk_rule-z-requires : goal.check-chk_rule-z-requires
check-chk_rule-z-requires t c =
    (omega (arith, c.decreases, whole_less c.requires c.enter.ensures c.in_ok-inner.was), whole_rule c.requires c.enter.ensures c.in_ok-inner.was)

pub check-leave-requires : goal.check-leave-requires
check-leave-requires t c = whole_leave c.requires c.enter.ensures c.in_ok-inner.was c.chk_rule-z.ensures

pub check-returns : goal.check-returns
check-returns t c = whole_left c.requires c.enter.ensures c.in_ok-inner.was c.chk_rule-z.ensures c.leave.ensures

-- ## `chk_all`: ChkAll.

pub chk_all-open_right-o-requires : goal.chk_all-open_right-o-requires
chk_all-open_right-o-requires t c = all_pre c.args.h c.requires

pub chk_all-check-requires : goal.chk_all-check-requires
chk_all-check-requires t c = may_ask (all_asks c.args.h c.requires c.open_right-o.ensures) c.decreases

pub chk_all-returns-in_err-r : goal.chk_all-returns-in_err-r
chk_all-returns-in_err-r t c = unless (all_asks c.args.h c.requires c.open_right-o.ensures) c.check.ensures c.in_err-r.was c.from_residual.ensures.1

pub chk_all-keep_out-requires : goal.chk_all-keep_out-requires
chk_all-keep_out-requires t c = space_back (all_asks c.args.h c.requires c.open_right-o.ensures) c.check.ensures c.in_ok-r.was

pub chk_all-returns : goal.chk_all-returns
chk_all-returns t c = all_done c.args.h c.requires c.open_right-o.ensures c.check.ensures c.in_ok-r.was c.keep_out.ensures

-- ## `chk_lam`: ChkLam.

pub chk_lam-abs_of-l-requires : goal.chk_lam-abs_of-l-requires
chk_lam-abs_of-l-requires t c = lam_shaped c.args.h c.requires

pub chk_lam-left_of-p-requires : goal.chk_lam-left_of-p-requires
chk_lam-left_of-p-requires t c = lam_held c.args.h c.requires

pub chk_lam-right_of-c-requires : goal.chk_lam-right_of-c-requires
chk_lam-right_of-c-requires t c = lam_held c.args.h c.requires

pub chk_lam-parameter-requires : goal.chk_lam-parameter-requires
chk_lam-parameter-requires t c = lam_two c.args.h c.requires c.abs_of-l.ensures c.left_of-p.ensures c.right_of-c.ensures

pub chk_lam-returns-in_err-compared : goal.chk_lam-returns-in_err-compared
chk_lam-returns-in_err-compared t c =
    lam_end c.args.h c.requires c.abs_of-l.ensures c.left_of-p.ensures c.right_of-c.ensures c.parameter.ensures c.in_err-compared.was
    c.from_residual.ensures.1

pub chk_lam-push-o-requires : goal.chk_lam-push-o-requires
chk_lam-push-o-requires t c = (
  omega arith,
  lam_space c.args.h c.requires c.abs_of-l.ensures c.left_of-p.ensures c.right_of-c.ensures c.parameter.ensures c.in_ok-compared.was
      c.entry-e.ensures,
)

pub chk_lam-check-requires : goal.chk_lam-check-requires
chk_lam-check-requires t c =
    may_ask (lam_asks c.args.h c.requires c.abs_of-l.ensures c.left_of-p.ensures c.right_of-c.ensures c.parameter.ensures c.in_ok-compared.was
    c.entry-e.ensures c.push-o.ensures) c.decreases

pub chk_lam-returns-in_err-r : goal.chk_lam-returns-in_err-r
chk_lam-returns-in_err-r t c =
    unless (lam_asks c.args.h c.requires c.abs_of-l.ensures c.left_of-p.ensures c.right_of-c.ensures c.parameter.ensures c.in_ok-compared.was
    c.entry-e.ensures c.push-o.ensures) c.check.ensures c.in_err-r.was c.from_residual-in_err-r.ensures.1

pub chk_lam-keep_out-requires : goal.chk_lam-keep_out-requires
chk_lam-keep_out-requires t c =
    space_back (lam_asks c.args.h c.requires c.abs_of-l.ensures c.left_of-p.ensures c.right_of-c.ensures c.parameter.ensures c.in_ok-compared.was
    c.entry-e.ensures c.push-o.ensures) c.check.ensures c.in_ok-r.was

pub chk_lam-returns : goal.chk_lam-returns
chk_lam-returns t c =
    lam_done c.args.h c.requires c.abs_of-l.ensures c.left_of-p.ensures c.right_of-c.ensures c.parameter.ensures c.in_ok-compared.was
    c.entry-e.ensures c.push-o.ensures c.check.ensures c.in_ok-r.was c.keep_out.ensures

-- ## `chk_rule`: each arm is its callee.

pub chk_rule-word-requires : goal.chk_rule-word-requires
chk_rule-word-requires t c = search check_within

pub chk_rule-check_lit-requires : goal.chk_rule-check_lit-requires
chk_rule-check_lit-requires t c = (search rules, of_literal c.in-ChkLitInt.is)

-- ## `chk_sub`: ChkSub.

pub chk_sub-infer-requires : goal.chk_sub-infer-requires
chk_sub-infer-requires t c = may_ask (sub_asks c.args.h c.requires) c.decreases

pub chk_sub-returns-in_err-r : goal.chk_sub-returns-in_err-r
chk_sub-returns-in_err-r t c = unless (sub_asks c.args.h c.requires) c.infer.ensures c.in_err-r.was c.from_residual.ensures.1

pub chk_sub-subtype_applied-requires : goal.chk_sub-subtype_applied-requires
chk_sub-subtype_applied-requires t c = sub_two c.args.h c.requires c.infer.ensures c.in_ok-r.was

pub chk_sub-returns-in_err-u : goal.chk_sub-returns-in_err-u
chk_sub-returns-in_err-u t c =
    sub_unless c.args.h c.requires c.infer.ensures c.in_ok-r.was c.subtype_applied.ensures c.in_err-u.was c.from_residual-in_err-u.ensures.1

pub chk_sub-returns : goal.chk_sub-returns
chk_sub-returns t c = sub_done c.args.h c.requires c.infer.ensures c.in_ok-r.was c.subtype_applied.ensures c.in_ok-u.was c.plain_out.ensures

-- ## `infer`: entering, its rule, leaving.

pub infer-returns-in_err-inner : goal.infer-returns-in_err-inner
infer-returns-in_err-inner t c = rw (stop_is _ c.from_residual.ensures.1) (whole_spent c.enter.ensures c.in_err-inner.was)

pub infer-inf_rule-z-requires : goal.infer-inf_rule-z-requires
infer-inf_rule-z-requires t c =
    (omega (arith, c.decreases, whole_less c.requires c.enter.ensures c.in_ok-inner.was), whole_rule c.requires c.enter.ensures c.in_ok-inner.was)

pub infer-leave-requires : goal.infer-leave-requires
infer-leave-requires t c = whole_leave c.requires c.enter.ensures c.in_ok-inner.was c.inf_rule-z.ensures

pub infer-returns : goal.infer-returns
infer-returns t c = whole_left c.requires c.enter.ensures c.in_ok-inner.was c.inf_rule-z.ensures c.leave.ensures

-- ## `infer_abs`: InfLam.

pub infer_abs-abs_of-p-requires : goal.infer_abs-abs_of-p-requires
infer_abs-abs_of-p-requires t c = infer_shaped c.requires

pub infer_abs-lam_in-o-requires : goal.infer_abs-lam_in-o-requires
infer_abs-lam_in-o-requires t c = abs_lam c.args.h c.requires c.abs_of-p.ensures

pub infer_abs-check-requires : goal.infer_abs-check-requires
infer_abs-check-requires t c = may_ask (abs_asks c.args.h c.requires c.abs_of-p.ensures c.lam_in-o.ensures) c.decreases

pub infer_abs-returns-in_err-r : goal.infer_abs-returns-in_err-r
infer_abs-returns-in_err-r t c =
    unless (abs_asks c.args.h c.requires c.abs_of-p.ensures c.lam_in-o.ensures) c.check.ensures c.in_err-r.was c.from_residual.ensures.1

pub infer_abs-keep_out-requires : goal.infer_abs-keep_out-requires
infer_abs-keep_out-requires t c = space_back (abs_asks c.args.h c.requires c.abs_of-p.ensures c.lam_in-o.ensures) c.check.ensures c.in_ok-r.was

pub infer_abs-returns : goal.infer_abs-returns
infer_abs-returns t c = abs_done c.args.h c.requires c.abs_of-p.ensures c.lam_in-o.ensures c.check.ensures c.in_ok-r.was c.keep_out.ensures

-- ## `infer_ann`: InfAnn.

pub infer_ann-typed_of-p-requires : goal.infer_ann-typed_of-p-requires
infer_ann-typed_of-p-requires t c = an_ann (infer_shaped c.requires)

pub infer_ann-check-requires : goal.infer_ann-check-requires
infer_ann-check-requires t c = may_ask (ann_asks c.args.h c.requires c.typed_of-p.ensures.ann) c.decreases

pub infer_ann-returns-in_err-r : goal.infer_ann-returns-in_err-r
infer_ann-returns-in_err-r t c =
    unless (ann_asks c.args.h c.requires c.typed_of-p.ensures.ann) c.check.ensures c.in_err-r.was c.from_residual.ensures.1

pub infer_ann-returns : goal.infer_ann-returns
infer_ann-returns t c = ann_done c.args.h c.requires c.typed_of-p.ensures.ann c.check.ensures c.in_ok-r.was c.plain_out.ensures

-- ## `infer_app`: entering, its rule, leaving.

pub infer_app-returns-in_err-inner : goal.infer_app-returns-in_err-inner
infer_app-returns-in_err-inner t c = rw (stop_is _ c.from_residual.ensures.1) (whole_spent c.enter.ensures c.in_err-inner.was)

pub infer_app-app_rule-z-requires : goal.infer_app-app_rule-z-requires
infer_app-app_rule-z-requires t c =
    (omega (arith, c.decreases, whole_less c.requires c.enter.ensures c.in_ok-inner.was), whole_rule c.requires c.enter.ensures c.in_ok-inner.was)

pub infer_app-leave-requires : goal.infer_app-leave-requires
infer_app-leave-requires t c = whole_leave c.requires c.enter.ensures c.in_ok-inner.was c.app_rule-z.ensures

pub infer_app-returns : goal.infer_app-returns
infer_app-returns t c = whole_left c.requires c.enter.ensures c.in_ok-inner.was c.app_rule-z.ensures c.leave.ensures

-- ## `infer_application`: InfApp.

pub infer_application-app_of-p-requires : goal.infer_application-app_of-p-requires
infer_application-app_of-p-requires t c = infer_shaped c.requires

pub infer_application-infer-requires : goal.infer_application-infer-requires
infer_application-infer-requires t c = may_ask (app_asks c.args.h c.requires c.app_of-p.ensures) c.decreases

pub infer_application-returns-in_err-r : goal.infer_application-returns-in_err-r
infer_application-returns-in_err-r t c =
    unless (app_asks c.args.h c.requires c.app_of-p.ensures) c.infer.ensures c.in_err-r.was c.from_residual.ensures.1

pub infer_application-apply_ctx_type-requires : goal.infer_application-apply_ctx_type-requires
infer_application-apply_ctx_type-requires t c = app_apply c.args.h c.requires c.app_of-p.ensures c.infer.ensures c.in_ok-r.was

pub infer_application-returns-in_err-applied : goal.infer_application-returns-in_err-applied
infer_application-returns-in_err-applied t c =
    app_spent c.args.h c.requires c.app_of-p.ensures c.infer.ensures c.in_ok-r.was c.apply_ctx_type.ensures c.in_err-applied.was
    c.from_residual-in_err-applied.ensures.1

pub infer_application-infer_app-requires : goal.infer_application-infer_app-requires
infer_application-infer_app-requires t c =
    may_ask (app_asks₂ c.args.h c.requires c.app_of-p.ensures c.infer.ensures c.in_ok-r.was c.apply_ctx_type.ensures c.in_ok-applied.was) c.decreases

pub infer_application-returns-in_err-u : goal.infer_application-returns-in_err-u
infer_application-returns-in_err-u t c =
    unless (app_asks₂ c.args.h c.requires c.app_of-p.ensures c.infer.ensures c.in_ok-r.was c.apply_ctx_type.ensures c.in_ok-applied.was)
    c.infer_app.ensures c.in_err-u.was c.from_residual-in_err-u.ensures.1

pub infer_application-returns : goal.infer_application-returns
infer_application-returns t c =
    app_done c.args.h c.requires c.app_of-p.ensures c.infer.ensures c.in_ok-r.was c.apply_ctx_type.ensures c.in_ok-applied.was c.infer_app.ensures
    c.in_ok-u.was c.plain_out.ensures

-- ## `infer_binop`: the operator's rule, its left side, its right side.

-- what the left side came to, checked or inferred
infer_binop_left : (t : ℕ) (c : infer_binop-Joined-sides t)
    → Judged c.args.h c.args.q.now c.args.work.now c.match-sides.work c.args.st c.args.g (left_ask c.operator-sides.result.against c.binop_of-p.result.left)
    c.match-sides.branch'
infer_binop_left t c = elim c.match-sides.branch [
  | infer_binop-in-Some w ↦ rw (w.in-Some.is, w.work-is, w.branch'-is) w.check.ensures
  | infer_binop-in-None w ↦ rw (w.in-None.is, w.work-is, w.branch'-is) w.infer.ensures
]

pub infer_binop-binop_of-p-requires : goal.infer_binop-binop_of-p-requires
infer_binop-binop_of-p-requires t c = infer_shaped c.requires

pub infer_binop-check-requires : goal.infer_binop-check-requires
infer_binop-check-requires t c = rw c.in-Some.is at (may_ask (op_asks c.args.h c.requires c.binop_of-p.ensures c.operator-sides.ensures) c.decreases)

pub infer_binop-infer-requires : goal.infer_binop-infer-requires
infer_binop-infer-requires t c = rw c.in-None.is at (may_ask (op_asks c.args.h c.requires c.binop_of-p.ensures c.operator-sides.ensures) c.decreases)

pub infer_binop-returns-in_err-r : goal.infer_binop-returns-in_err-r
infer_binop-returns-in_err-r t c =
    unless (op_asks c.args.h c.requires c.binop_of-p.ensures c.operator-sides.ensures)
    (infer_binop_left t (goal.at.infer_binop-returns-in_err-r t c).Joined-sides) c.in_err-r.was c.from_residual.ensures.1

pub infer_binop-check-requires-2 : goal.infer_binop-check-requires-2
infer_binop-check-requires-2 t c =
    may_ask (op_asks₂ c.args.h c.requires c.binop_of-p.ensures c.operator-sides.ensures
    (infer_binop_left t (goal.at.infer_binop-check-requires-2 t c).Joined-sides) c.in_ok-r.was c.unwrap_or-ty.ensures) c.decreases

pub infer_binop-returns-in_err-u : goal.infer_binop-returns-in_err-u
infer_binop-returns-in_err-u t c =
    unless (op_asks₂ c.args.h c.requires c.binop_of-p.ensures c.operator-sides.ensures
    (infer_binop_left t (goal.at.infer_binop-returns-in_err-u t c).Joined-sides) c.in_ok-r.was
    c.unwrap_or-ty.ensures) c.check-2.ensures c.in_err-u.was c.from_residual-in_err-u.ensures.1

pub infer_binop-returns : goal.infer_binop-returns
infer_binop-returns t c =
    op_done c.args.h c.requires c.binop_of-p.ensures c.operator-sides.ensures (infer_binop_left t (goal.at.infer_binop-returns t c).Joined-sides)
    c.in_ok-r.was c.unwrap_or-ty.ensures c.check-2.ensures c.in_ok-u.was c.number.ensures.0 c.plain_out.ensures

-- ## `infer_if`: InfIf.

pub infer_if-if_of-p-requires : goal.infer_if-if_of-p-requires
infer_if-if_of-p-requires t c = infer_shaped c.requires

pub infer_if-check-requires : goal.infer_if-check-requires
infer_if-check-requires t c = may_ask (if_asks c.args.h c.requires c.if_of-p.ensures) c.decreases

pub infer_if-returns-in_err-r : goal.infer_if-returns-in_err-r
infer_if-returns-in_err-r t c = unless (if_asks c.args.h c.requires c.if_of-p.ensures) c.check.ensures c.in_err-r.was c.from_residual.ensures.1

pub infer_if-infer-requires : goal.infer_if-infer-requires
infer_if-infer-requires t c = may_ask (if_asks₂ c.args.h c.requires c.if_of-p.ensures c.check.ensures c.in_ok-r.was) c.decreases

pub infer_if-returns-in_err-u : goal.infer_if-returns-in_err-u
infer_if-returns-in_err-u t c =
    unless (if_asks₂ c.args.h c.requires c.if_of-p.ensures c.check.ensures c.in_ok-r.was) c.infer.ensures c.in_err-u.was
    c.from_residual-in_err-u.ensures.1

pub infer_if-infer-requires-2 : goal.infer_if-infer-requires-2
infer_if-infer-requires-2 t c =
    may_ask (if_asks₃ c.args.h c.requires c.if_of-p.ensures c.check.ensures c.in_ok-r.was c.infer.ensures c.in_ok-u.was) c.decreases

pub infer_if-returns-in_err-v : goal.infer_if-returns-in_err-v
infer_if-returns-in_err-v t c =
    unless (if_asks₃ c.args.h c.requires c.if_of-p.ensures c.check.ensures c.in_ok-r.was c.infer.ensures c.in_ok-u.was) c.infer-2.ensures
    c.in_err-v.was c.from_residual-in_err-v.ensures.1

pub infer_if-subtype_applied-requires : goal.infer_if-subtype_applied-requires
infer_if-subtype_applied-requires t c =
    if_two c.args.h c.requires c.if_of-p.ensures c.check.ensures c.in_ok-r.was c.infer.ensures c.in_ok-u.was c.infer-2.ensures c.in_ok-v.was

pub infer_if-returns-in_err-o : goal.infer_if-returns-in_err-o
infer_if-returns-in_err-o t c =
    if_unless c.args.h c.requires c.if_of-p.ensures c.check.ensures c.in_ok-r.was c.infer.ensures c.in_ok-u.was c.infer-2.ensures c.in_ok-v.was
    c.subtype_applied.ensures c.in_err-o.was c.from_residual-in_err-o.ensures.1

pub infer_if-returns : goal.infer_if-returns
infer_if-returns t c =
    if_done c.args.h c.requires c.if_of-p.ensures c.check.ensures c.in_ok-r.was c.infer.ensures c.in_ok-u.was c.infer-2.ensures c.in_ok-v.was
    c.subtype_applied.ensures c.in_ok-o.was c.plain_out.ensures

-- ## `infer_let`: InfLet.

pub infer_let-let_of-p-requires : goal.infer_let-let_of-p-requires
infer_let-let_of-p-requires t c = infer_shaped c.requires

pub infer_let-infer-requires : goal.infer_let-infer-requires
infer_let-infer-requires t c = may_ask (let_asks c.args.h c.requires c.let_of-p.ensures) c.decreases

pub infer_let-returns-in_err-r : goal.infer_let-returns-in_err-r
infer_let-returns-in_err-r t c = unless (let_asks c.args.h c.requires c.let_of-p.ensures) c.infer.ensures c.in_err-r.was c.from_residual.ensures.1

pub infer_let-push-o-requires : goal.infer_let-push-o-requires
infer_let-push-o-requires t c = (omega arith, let_space c.args.h c.requires c.let_of-p.ensures c.infer.ensures c.in_ok-r.was c.entry-e.ensures)

pub infer_let-infer-requires-2 : goal.infer_let-infer-requires-2
infer_let-infer-requires-2 t c =
    may_ask (let_asks₂ c.args.h c.requires c.let_of-p.ensures c.infer.ensures c.in_ok-r.was c.entry-e.ensures c.push-o.ensures) c.decreases

pub infer_let-returns-in_err-u : goal.infer_let-returns-in_err-u
infer_let-returns-in_err-u t c =
    unless (let_asks₂ c.args.h c.requires c.let_of-p.ensures c.infer.ensures c.in_ok-r.was c.entry-e.ensures c.push-o.ensures) c.infer-2.ensures
    c.in_err-u.was c.from_residual-in_err-u.ensures.1

pub infer_let-keep_out-requires : goal.infer_let-keep_out-requires
infer_let-keep_out-requires t c =
    space_back (let_asks₂ c.args.h c.requires c.let_of-p.ensures c.infer.ensures c.in_ok-r.was c.entry-e.ensures c.push-o.ensures) c.infer-2.ensures
    c.in_ok-u.was

pub infer_let-returns : goal.infer_let-returns
infer_let-returns t c =
    let_done c.args.h c.requires c.let_of-p.ensures c.infer.ensures c.in_ok-r.was c.entry-e.ensures c.push-o.ensures c.infer-2.ensures c.in_ok-u.was
    c.keep_out.ensures

-- ## `infer_tabs`: InfTAbs.

pub infer_tabs-tabs_of-p-requires : goal.infer_tabs-tabs_of-p-requires
infer_tabs-tabs_of-p-requires t c = infer_shaped c.requires

pub infer_tabs-push-o-requires : goal.infer_tabs-push-o-requires
infer_tabs-push-o-requires t c = (omega arith, tabs_space c.args.h c.requires c.tabs_of-p.ensures c.entry-e.ensures)

pub infer_tabs-infer-requires : goal.infer_tabs-infer-requires
infer_tabs-infer-requires t c = may_ask (tabs_asks c.args.h c.requires c.tabs_of-p.ensures c.entry-e.ensures c.push-o.ensures) c.decreases

pub infer_tabs-returns-in_err-r : goal.infer_tabs-returns-in_err-r
infer_tabs-returns-in_err-r t c =
    unless (tabs_asks c.args.h c.requires c.tabs_of-p.ensures c.entry-e.ensures c.push-o.ensures) c.infer.ensures c.in_err-r.was
    c.from_residual.ensures.1

pub infer_tabs-apply_ctx_type-requires : goal.infer_tabs-apply_ctx_type-requires
infer_tabs-apply_ctx_type-requires t c =
    tabs_apply c.args.h c.requires c.tabs_of-p.ensures c.entry-e.ensures c.push-o.ensures c.infer.ensures c.in_ok-r.was

pub infer_tabs-returns-in_err-applied : goal.infer_tabs-returns-in_err-applied
infer_tabs-returns-in_err-applied t c =
    tabs_spent c.args.h c.requires c.tabs_of-p.ensures c.entry-e.ensures c.push-o.ensures c.infer.ensures c.in_ok-r.was c.apply_ctx_type.ensures
    c.in_err-applied.was c.from_residual-in_err-applied.ensures.1

pub infer_tabs-tabs_out-requires : goal.infer_tabs-tabs_out-requires
infer_tabs-tabs_out-requires t c =
    tabs_pre c.args.h c.requires c.tabs_of-p.ensures c.entry-e.ensures c.push-o.ensures c.infer.ensures c.in_ok-r.was c.apply_ctx_type.ensures
    c.in_ok-applied.was

pub infer_tabs-returns : goal.infer_tabs-returns
infer_tabs-returns t c =
    tabs_done c.args.h c.requires c.tabs_of-p.ensures c.entry-e.ensures c.push-o.ensures c.infer.ensures c.in_ok-r.was c.apply_ctx_type.ensures
    c.in_ok-applied.was c.tabs_out.ensures

-- ## `infer_tapp`: InfTApp.

pub infer_tapp-typed_of-p-requires : goal.infer_tapp-typed_of-p-requires
infer_tapp-typed_of-p-requires t c = a_tapp (infer_shaped c.requires)

pub infer_tapp-infer-requires : goal.infer_tapp-infer-requires
infer_tapp-infer-requires t c = may_ask (tapp_asks c.args.h c.requires c.typed_of-p.ensures.tapp) c.decreases

pub infer_tapp-returns-in_err-r : goal.infer_tapp-returns-in_err-r
infer_tapp-returns-in_err-r t c =
    unless (tapp_asks c.args.h c.requires c.typed_of-p.ensures.tapp) c.infer.ensures c.in_err-r.was c.from_residual.ensures.1

pub infer_tapp-instantiate-requires : goal.infer_tapp-instantiate-requires
infer_tapp-instantiate-requires t c = tapp_two c.args.h c.requires c.typed_of-p.ensures.tapp c.infer.ensures c.in_ok-r.was

pub infer_tapp-returns-in_err-made : goal.infer_tapp-returns-in_err-made
infer_tapp-returns-in_err-made t c =
    tapp_end c.args.h c.requires c.typed_of-p.ensures.tapp c.infer.ensures c.in_ok-r.was c.instantiate.ensures c.in_err-made.was
    c.from_residual-in_err-made.ensures.1

pub infer_tapp-returns : goal.infer_tapp-returns
infer_tapp-returns t c =
    tapp_done c.args.h c.requires c.typed_of-p.ensures.tapp c.infer.ensures c.in_ok-r.was c.instantiate.ensures c.in_ok-made.was c.plain_out.ensures
