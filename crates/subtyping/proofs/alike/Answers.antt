-- `alike` meets its contract.
use mathlib.Core.Logic.{inl, inr}
use mathlib.Core.Path.{sym, ◌∙◌}
use Rattle.types.proofs.Held.{named_var}
use Rattle.walks.proofs.Same.{forms_agree}
use Rattle.subtyping.proofs.Arms.{alike_apart, alike_base, alike_large, alike_vars, other_vars, alike_etvars, other_etvars}
use Rattle.subtyping.proofs.alike.Goals as goal

pub returns-then-ne : goal.returns-then-ne
returns-then-ne c = alike_apart _ _ c.if-ne.ensures c.form-form.ensures c.form.ensures

pub returns-in-Int : goal.returns-in-Int
returns-in-Int c = alike_base _ _ c.if-ne.ensures c.form-form.ensures c.form.ensures c.in-Int.is

pub returns-in-Arrow : goal.returns-in-Arrow
returns-in-Arrow c = alike_large _ _ c.if-ne.ensures c.form-form.ensures c.form.ensures c.in-Arrow.is

-- two Vars

pub name_of-requires : goal.name_of-requires
name_of-requires c = named_var c.requires.left c.form-form.ensures (inl c.in-Var.is)

pub name_of-requires-in-Var-1 : goal.name_of-requires-in-Var-1
name_of-requires-in-Var-1 c = named_var c.requires.right c.form.ensures (inl (sym (forms_agree _ _ c.if-ne.ensures) ∙ c.in-Var.is))

pub returns-in-Var : goal.returns-in-Var
returns-in-Var c =
    alike_vars _ _ c.if-ne.ensures c.form-form.ensures c.form.ensures c.name_of.ensures c.name_of-in-Var-1.ensures c.in-Var.is
    c.if-eq.ensures

pub returns-in_default : goal.returns-in_default
returns-in_default c =
    other_vars _ _ c.if-ne.ensures c.form-form.ensures c.form.ensures c.name_of.ensures c.name_of-in-Var-1.ensures c.in-Var.is
    c.if-eq.ensures

-- two ETVars

pub name_of-requires-in-ETVar-1 : goal.name_of-requires-in-ETVar-1
name_of-requires-in-ETVar-1 c = named_var c.requires.left c.form-form.ensures (inr c.in-ETVar.is)

pub name_of-requires-in-ETVar-2 : goal.name_of-requires-in-ETVar-2
name_of-requires-in-ETVar-2 c = named_var c.requires.right c.form.ensures (inr (sym (forms_agree _ _ c.if-ne.ensures) ∙ c.in-ETVar.is))

pub returns-in-ETVar : goal.returns-in-ETVar
returns-in-ETVar c =
    alike_etvars _ _ c.if-ne.ensures c.form-form.ensures c.form.ensures c.name_of-in-ETVar-1.ensures c.name_of-in-ETVar-2.ensures
    c.in-ETVar.is c.if-eq-2.ensures

pub returns-in_default-2 : goal.returns-in_default-2
returns-in_default-2 c =
    other_etvars _ _ c.if-ne.ensures c.form-form.ensures c.form.ensures c.name_of-in-ETVar-1.ensures c.name_of-in-ETVar-2.ensures
    c.in-ETVar.is c.if-eq-2.ensures
