-- `choose` meets its contract.
use Rattle.subtyping.proofs.Arms.{chosen_refl, chosen_form, chosen_unknown}
use Rattle.subtyping.proofs.choose.Goals as goal

pub returns-in-Some : goal.returns-in-Some
returns-in-Some c = chosen_refl c.in-Some.ensures

pub returns-in-Neither : goal.returns-in-Neither
returns-in-Neither c =
    chosen_unknown _ _ c.in_default.ensures c.form.ensures c.form-2.ensures c.in-Neither.ensures c.by_unknown.ensures

pub returns-in_default-by_form : goal.returns-in_default-by_form
returns-in_default-by_form c =
    chosen_form _ _ c.in_default.ensures c.form.ensures c.form-2.ensures c.in_default-by_form.not-Neither c.by_form.ensures
