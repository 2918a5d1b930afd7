-- The cycle of inst_l and inst_r meets its contracts.
use Prim.Native.Nat.{ℕ}
use native.Mathlib.Omega.{arith}
use mathlib.Core.Path.{◌∙◌, ap}
use Rattle.definition.specs.Syntax.{rule_number}
use Rattle.judging.proofs.Steps.{stop_is}
use Rattle.judging.proofs.Whole.{whole_spent, whole_rule, whole_less, whole_leave, whole_left}
use Rattle.rules.specs.Sides.{side}
use Rattle.rules.proofs.Under.{under_spent, under_room, under_first, under_falls, under_else, under_space, under_done}
use Rattle.instantiation.proofs.Sides.{other_is, arr_rule, all_rule}
use Rattle.instantiation.proofs.Handing.{hands}
use Rattle.instantiation.proofs.Choosing.{choose_solve}
use Rattle.instantiation.proofs.Binder.{all_open, all_small, under_on}
use Rattle.instantiation.proofs.Arrow.{Halved, arr_held, arr_unknown, arr_first, arr_else₁, arr_apply, arr_spent, arr_second, arr_else₂, arr_done}
use Rattle.instantiation.proofs.+inst_l_inst_r.Goals.{inst_arr-After-other}
use Rattle.instantiation.proofs.+inst_l_inst_r.Goals as goal

-- ## What `inst` needs.

pub inst-returns-in_err-inner : goal.inst-returns-in_err-inner
inst-returns-in_err-inner t c = rw (stop_is _ c.from_residual.ensures.1) (whole_spent c.enter.ensures c.in_err-inner.was)

pub inst-inst_rule-z-requires : goal.inst-inst_rule-z-requires
inst-inst_rule-z-requires t c = (
  omega (arith, c.decreases, whole_less c.requires c.enter.ensures c.in_ok-inner.was),
  whole_rule c.requires c.enter.ensures c.in_ok-inner.was,
)

pub inst-leave-requires : goal.inst-leave-requires
inst-leave-requires t c = rw c.asked.ensures (whole_leave c.requires c.enter.ensures c.in_ok-inner.was c.inst_rule-z.ensures)

pub inst-returns : goal.inst-returns
inst-returns t c = whole_left c.requires c.enter.ensures c.in_ok-inner.was c.inst_rule-z.ensures (rw c.asked.ensures at c.leave.ensures)

-- ## `inst_all`: InstLAllR and InstRAllL.

pub inst_all-open_on-requires : goal.inst_all-open_on-requires
inst_all-open_on-requires t c = search all_open

pub inst_all-returns-in_err-o : goal.inst_all-returns-in_err-o
inst_all-returns-in_err-o t c =
    rw (stop_is _ c.from_residual.ensures.1)
    (under_spent (under_on c.requires (other_is c.args.s c.other-back.ensures) c.open_on.ensures) c.in_err-o.was)

pub inst_all-inst_on-requires : goal.inst_all-inst_on-requires
inst_all-inst_on-requires t c =
    let u = under_on c.requires (other_is c.args.s c.other-back.ensures) c.open_on.ensures in (
      omega (arith, c.decreases, under_falls u c.requires.pre c.in_ok-o.was),
      under_first u c.requires.pre c.in_ok-o.was (all_small c.requires (under_room u c.requires.pre c.in_ok-o.was)),
    )

pub inst_all-returns-in_err-r : goal.inst_all-returns-in_err-r
inst_all-returns-in_err-r t c =
    let u = under_on c.requires (other_is c.args.s c.other-back.ensures) c.open_on.ensures in
    hands c.in_err-r.was c.from_residual-in_err-r.ensures (under_else u c.requires.pre c.in_ok-o.was c.inst_on.ensures)

pub inst_all-keep_out-requires : goal.inst_all-keep_out-requires
inst_all-keep_out-requires t c =
    let u = under_on c.requires (other_is c.args.s c.other-back.ensures) c.open_on.ensures in
    under_space u c.requires.pre c.in_ok-o.was c.inst_on.ensures c.in_ok-r.was

pub inst_all-returns : goal.inst_all-returns
inst_all-returns t c =
    let u = under_on c.requires (other_is c.args.s c.other-back.ensures) c.open_on.ensures in
    under_done u c.requires.pre c.in_ok-o.was c.inst_on.ensures c.in_ok-r.was
    (c.number.ensures.0 ∙ ap rule_number (all_rule (side c.args.s) c.one-rule.ensures)) (rw c.pushed-k.ensures at c.keep_out.ensures)

-- ## `inst_arr`: InstLArr and InstRArr.

module _ (t : ℕ) where
  -- what is known once the unknown is parted
  abbrev halved : inst_arr-After-other t → Halved t
  halved c = record {
    m = _;
    q = _;
    w = _;
    s = _;
    g = _;
    sd = _;
    a = _;
    ty = _;
    l = _;
    r = _;
    x = _;
    w₁ = _;
    o = _;
    od = _;
    pre = c.requires;
    falls = c.decreases;
    left = c.left_of-left.ensures;
    right = c.right_of-right.ensures;
    name = c.name_of-x.ensures;
    parts = c.part-o.ensures;
    back = other_is c.args.s c.other.ensures;
  }

pub inst_arr-left_of-left-requires : goal.inst_arr-left_of-left-requires
inst_arr-left_of-left-requires t c = search arr_held

pub inst_arr-right_of-right-requires : goal.inst_arr-right_of-right-requires
inst_arr-right_of-right-requires t c = search arr_held

pub inst_arr-name_of-x-requires : goal.inst_arr-name_of-x-requires
inst_arr-name_of-x-requires t c = search arr_unknown

pub inst_arr-inst_on-requires : goal.inst_arr-inst_on-requires
inst_arr-inst_on-requires t c = arr_first (halved t (goal.at.inst_arr-inst_on-requires t c).After-other)

pub inst_arr-returns-in_err-r : goal.inst_arr-returns-in_err-r
inst_arr-returns-in_err-r t c =
    let h = halved t (goal.at.inst_arr-returns-in_err-r t c).After-other in
    hands c.in_err-r.was c.from_residual.ensures (arr_else₁ h c.inst_on.ensures)

pub inst_arr-apply_ctx_type-requires : goal.inst_arr-apply_ctx_type-requires
inst_arr-apply_ctx_type-requires t c =
    arr_apply (halved t (goal.at.inst_arr-apply_ctx_type-requires t c).After-other) c.inst_on.ensures c.in_ok-r.was

pub inst_arr-returns-in_err-applied : goal.inst_arr-returns-in_err-applied
inst_arr-returns-in_err-applied t c =
    let h = halved t (goal.at.inst_arr-returns-in_err-applied t c).After-other in
    rw (stop_is _ c.from_residual-in_err-applied.ensures.1)
    (arr_spent h c.inst_on.ensures c.in_ok-r.was c.apply_ctx_type.ensures c.in_err-applied.was)

pub inst_arr-inst_on-requires-2 : goal.inst_arr-inst_on-requires-2
inst_arr-inst_on-requires-2 t c =
    let h = halved t (goal.at.inst_arr-inst_on-requires-2 t c).After-other in
    arr_second h c.inst_on.ensures c.in_ok-r.was c.apply_ctx_type.ensures c.in_ok-applied.was

pub inst_arr-returns-in_err-u : goal.inst_arr-returns-in_err-u
inst_arr-returns-in_err-u t c =
    let h = halved t (goal.at.inst_arr-returns-in_err-u t c).After-other in
    hands c.in_err-u.was c.from_residual-in_err-u.ensures
    (arr_else₂ h c.inst_on.ensures c.in_ok-r.was c.apply_ctx_type.ensures c.in_ok-applied.was c.inst_on-2.ensures)

pub inst_arr-returns : goal.inst_arr-returns
inst_arr-returns t c =
    let h = halved t (goal.at.inst_arr-returns t c).After-other in
    arr_done h c.inst_on.ensures c.in_ok-r.was c.apply_ctx_type.ensures c.in_ok-applied.was c.inst_on-2.ensures c.in_ok-u.was
    (c.number.ensures.0 ∙ ap rule_number (arr_rule (side c.args.s) c.one-rule.ensures)) c.plain_out.ensures

-- ## What `inst_rule` needs.

pub inst_rule-solve-requires : goal.inst_rule-solve-requires
inst_rule-solve-requires t c = choose_solve c.requires c.form.ensures c.in-Int.is
