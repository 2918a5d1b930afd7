-- `absent` meets its contract.
use mathlib.Core.Logic.{inr}
use Rattle.types.proofs.Held.{named_var}
use Rattle.subtyping.proofs.Arms.{etvar_form, absent_other, absent_by}
use Rattle.subtyping.proofs.absent.Goals as goal

pub name_of-requires : goal.name_of-requires
name_of-requires c = named_var c.requires.left c.form.ensures (inr (etvar_form _ c.if-eq.ensures))

pub returns-then-eq : goal.returns-then-eq
returns-then-eq c = absent_by _ c.form.ensures c.if-eq.ensures c.name_of.ensures _ c.occurs_check.ensures

pub returns-else-eq : goal.returns-else-eq
returns-else-eq c = absent_other _ c.form.ensures c.if-eq.false c.if-eq.ensures
