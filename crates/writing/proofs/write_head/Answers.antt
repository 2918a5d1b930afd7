-- `write_head` meets its contract.
use mathlib.Core.Path.{ap}
use Prim.Native.Nat.{ℕ}
use native.Mathlib.Omega.{arith}
use lib.ListN.{length, length-set}
use Rattle.types.proofs.Held.{held_arrow, held_forall, named_var, named_forall, left_held, right_held, body_held}
use Rattle.writing.proofs.Steps.{waiting_held, held_small, seen, step_base, step_name, step_arrow, step_forall}
use Rattle.writing.proofs.write_head.Goals as goal

pub returns-in-Int : goal.returns-in-Int
returns-in-Int c = search step_base

pub name_of-requires : goal.name_of-requires
name_of-requires c = search (named_var, waiting_held)

pub put-requires-in-Var : goal.put-requires-in-Var
put-requires-in-Var c =
    (omega (arith, (seen c.requires c.form-form.ensures).name c.in-Var.is, c.requires.within, ap length c.put.ensures, length-set {A = ℕ}), omega arith)

pub returns-in-Var : goal.returns-in-Var
returns-in-Var c = search step_name

pub right_of-requires : goal.right_of-requires
right_of-requires c = search (held_arrow, waiting_held)

pub put-requires-in-Arrow : goal.put-requires-in-Arrow
put-requires-in-Arrow c =
    let h = held_arrow (waiting_held c.requires) c.form-form.ensures c.in-Arrow.is in
    (omega (arith, c.requires.within, ap length c.put.ensures, length-set {A = ℕ}), held_small (right_held h c.right_of.ensures))

pub overflow_sub-low : goal.overflow_sub-low
overflow_sub-low c = omega (arith, (seen c.requires c.form-form.ensures).arrow c.in-Arrow.is)

pub left_of-requires : goal.left_of-requires
left_of-requires c = search (held_arrow, waiting_held)

pub put-requires-in-Arrow-2 : goal.put-requires-in-Arrow-2
put-requires-in-Arrow-2 c =
    let h = held_arrow (waiting_held c.requires) c.form-form.ensures c.in-Arrow.is in
    (omega (arith, c.requires.within, ap length c.put.ensures, ap length c.put-in-Arrow.ensures, length-set {A = ℕ}), held_small (left_held h c.left_of.ensures))

pub overflow_sub-result : goal.overflow_sub-result
overflow_sub-result c = omega (arith, (seen c.requires c.form-form.ensures).arrow c.in-Arrow.is)

pub returns-in-Arrow : goal.returns-in-Arrow
returns-in-Arrow c = search step_arrow

pub name_of-requires-in-Forall : goal.name_of-requires-in-Forall
name_of-requires-in-Forall c = search (named_forall, waiting_held)

pub put-requires-in-Forall : goal.put-requires-in-Forall
put-requires-in-Forall c =
    (omega (arith, (seen c.requires c.form-form.ensures).forall c.in-Forall.is, c.requires.within, ap length c.put.ensures, length-set {A = ℕ}), omega arith)

pub body_of-requires : goal.body_of-requires
body_of-requires c = search (held_forall, waiting_held)

pub put-requires-in-Forall-2 : goal.put-requires-in-Forall-2
put-requires-in-Forall-2 c =
    let h = held_forall (waiting_held c.requires) c.form-form.ensures c.in-Forall.is in
    (omega (arith, c.requires.within, ap length c.put.ensures, ap length c.put-in-Forall.ensures, length-set {A = ℕ}), held_small (body_held h c.body_of.ensures))

pub returns-in-Forall : goal.returns-in-Forall
returns-in-Forall c = search step_forall
