-- The cycle of subtype and its rules meets its contracts.
use Prim.Native.Nat.{ℕ}
use native.Mathlib.Omega.{arith}
use mathlib.Core.Path.{◌∙◌, ap}
use Rattle.definition.specs.Syntax.{rule_number}
use Rattle.judging.proofs.Steps.{stop_is}
use Rattle.judging.proofs.Whole.{whole_spent, whole_rule, whole_less, whole_leave, whole_left}
use Rattle.rules.specs.Sides.{side}
use Rattle.rules.proofs.Under.{under_spent, under_room, under_first, under_falls, under_else, under_space, under_done}
use Rattle.instantiation.proofs.Handing.{hands}
use Rattle.subtyping.proofs.Binder.{all_rule, all_open, all_small, under_on}
use Rattle.subtyping.proofs.Arrow.{Halved, arr_left, arr_right, arr_first, arr_else₁, arr_two, arr_end, arr_second, arr_else₂, arr_done}
use Rattle.subtyping.proofs.Rules.{arm_pre, refl_fires, none_fires}
use Rattle.subtyping.proofs.+subtype_and_rules.Goals.{sub_arr-After-right_of-b2}
use Rattle.subtyping.proofs.+subtype_and_rules.Goals as goal

-- ## What `subtype` needs.

pub subtype-returns-in_err-inner : goal.subtype-returns-in_err-inner
subtype-returns-in_err-inner t c = rw (stop_is _ c.from_residual.ensures.1) (whole_spent c.enter.ensures c.in_err-inner.was)

pub subtype-sub_rule-z-requires : goal.subtype-sub_rule-z-requires
subtype-sub_rule-z-requires t c = (
  omega (arith, c.decreases, whole_less c.requires c.enter.ensures c.in_ok-inner.was),
  whole_rule c.requires c.enter.ensures c.in_ok-inner.was,
)

pub subtype-leave-requires : goal.subtype-leave-requires
subtype-leave-requires t c = whole_leave c.requires c.enter.ensures c.in_ok-inner.was c.sub_rule-z.ensures

pub subtype-returns : goal.subtype-returns
subtype-returns t c = whole_left c.requires c.enter.ensures c.in_ok-inner.was c.sub_rule-z.ensures c.leave.ensures

-- ## What `sub_rule` needs.

pub sub_rule-returns-in-Refl : goal.sub_rule-returns-in-Refl
sub_rule-returns-in-Refl t c = search (refl_fires, arm_pre)

pub sub_rule-returns-in-Neither : goal.sub_rule-returns-in-Neither
sub_rule-returns-in-Neither t c = search (none_fires, arm_pre)

-- ## `sub_arr`: SubArr.

module _ (t : ℕ) where
  -- what is known once the halves are read
  abbrev halved : sub_arr-After-right_of-b2 t → Halved t
  halved c = record {
    m = c.args.h;
    q = _;
    w = _;
    s = _;
    g = _;
    a = _;
    b = _;
    a₁ = _;
    a₂ = _;
    b₁ = _;
    b₂ = _;
    pre = c.requires;
    falls = c.decreases;
    left_a = c.left_of-a1.ensures;
    right_a = c.right_of-a2.ensures;
    left_b = c.left_of-b1.ensures;
    right_b = c.right_of-b2.ensures;
  }

pub sub_arr-left_of-a1-requires : goal.sub_arr-left_of-a1-requires
sub_arr-left_of-a1-requires t c = search arr_left

pub sub_arr-right_of-a2-requires : goal.sub_arr-right_of-a2-requires
sub_arr-right_of-a2-requires t c = search arr_left

pub sub_arr-left_of-b1-requires : goal.sub_arr-left_of-b1-requires
sub_arr-left_of-b1-requires t c = search arr_right

pub sub_arr-right_of-b2-requires : goal.sub_arr-right_of-b2-requires
sub_arr-right_of-b2-requires t c = search arr_right

pub sub_arr-subtype-requires : goal.sub_arr-subtype-requires
sub_arr-subtype-requires t c = arr_first (halved t (goal.at.sub_arr-subtype-requires t c).After-right_of-b2)

pub sub_arr-returns-in_err-r : goal.sub_arr-returns-in_err-r
sub_arr-returns-in_err-r t c =
    let h = halved t (goal.at.sub_arr-returns-in_err-r t c).After-right_of-b2 in
    hands c.in_err-r.was c.from_residual.ensures (arr_else₁ h c.subtype.ensures)

pub sub_arr-apply_both-requires : goal.sub_arr-apply_both-requires
sub_arr-apply_both-requires t c =
    arr_two (halved t (goal.at.sub_arr-apply_both-requires t c).After-right_of-b2) c.subtype.ensures c.in_ok-r.was

pub sub_arr-returns-in_err-both : goal.sub_arr-returns-in_err-both
sub_arr-returns-in_err-both t c =
    let h = halved t (goal.at.sub_arr-returns-in_err-both t c).After-right_of-b2 in
    rw (stop_is _ c.from_residual-in_err-both.ensures.1)
    (arr_end h c.subtype.ensures c.in_ok-r.was c.apply_both.ensures c.in_err-both.was)

pub sub_arr-subtype-requires-2 : goal.sub_arr-subtype-requires-2
sub_arr-subtype-requires-2 t c =
    let h = halved t (goal.at.sub_arr-subtype-requires-2 t c).After-right_of-b2 in
    arr_second h c.subtype.ensures c.in_ok-r.was c.apply_both.ensures c.in_ok-both.was

pub sub_arr-returns-in_err-u : goal.sub_arr-returns-in_err-u
sub_arr-returns-in_err-u t c =
    let h = halved t (goal.at.sub_arr-returns-in_err-u t c).After-right_of-b2 in
    hands c.in_err-u.was c.from_residual-in_err-u.ensures
    (arr_else₂ h c.subtype.ensures c.in_ok-r.was c.apply_both.ensures c.in_ok-both.was c.subtype-2.ensures)

pub sub_arr-returns : goal.sub_arr-returns
sub_arr-returns t c =
    let h = halved t (goal.at.sub_arr-returns t c).After-right_of-b2 in
    arr_done h c.subtype.ensures c.in_ok-r.was c.apply_both.ensures c.in_ok-both.was c.subtype-2.ensures c.in_ok-u.was c.plain_out.ensures

-- ## `sub_all`: SubAllR and SubAllL.

pub sub_all-open_on-requires : goal.sub_all-open_on-requires
sub_all-open_on-requires t c = all_open c.requires c.one.ensures

pub sub_all-returns-in_err-o : goal.sub_all-returns-in_err-o
sub_all-returns-in_err-o t c =
    rw (stop_is _ c.from_residual.ensures.1) (under_spent (under_on c.requires c.one.ensures c.open_on.ensures) c.in_err-o.was)

pub sub_all-subtype-requires : goal.sub_all-subtype-requires
sub_all-subtype-requires t c =
    let u = under_on c.requires c.one.ensures c.open_on.ensures in (
      omega (arith, c.decreases, under_falls u c.requires.pre c.in_ok-o.was),
      rw (c.one-left.ensures, c.one-right.ensures) (under_first u c.requires.pre c.in_ok-o.was (all_small c.requires (under_room u c.requires.pre
          c.in_ok-o.was))),
    )

pub sub_all-returns-in_err-r : goal.sub_all-returns-in_err-r
sub_all-returns-in_err-r t c =
    let u = under_on c.requires c.one.ensures c.open_on.ensures in
    hands c.in_err-r.was c.from_residual-in_err-r.ensures (under_else u c.requires.pre c.in_ok-o.was (rw (
      c.one-left.ensures,
      c.one-right.ensures,
    ) at c.subtype.ensures))

pub sub_all-keep_out-requires : goal.sub_all-keep_out-requires
sub_all-keep_out-requires t c =
    let u = under_on c.requires c.one.ensures c.open_on.ensures in
    under_space u c.requires.pre c.in_ok-o.was (rw (c.one-left.ensures, c.one-right.ensures) at c.subtype.ensures) c.in_ok-r.was

pub sub_all-returns : goal.sub_all-returns
sub_all-returns t c =
    let u = under_on c.requires c.one.ensures c.open_on.ensures in
    under_done u c.requires.pre c.in_ok-o.was (rw (c.one-left.ensures, c.one-right.ensures) at c.subtype.ensures) c.in_ok-r.was
    (c.number.ensures.0 ∙ ap rule_number (all_rule (side c.args.s) c.one-rule.ensures)) (rw c.pushed-k.ensures at c.keep_out.ensures)
