-- `other_row` meets its contract.
use mathlib.Core.Path.{◌≡◌, refl}
use mathlib.Core.List.{[], ◌∷◌}
use native.Mathlib.Omega.{arith}
use Rattle.definition.specs.Syntax.{pick}
use Rattle.loading.proofs.Table.{look, others, table, each, row_one, row_two, row_three}
use Rattle.loading.proofs.ends.other_row.Goals as goal

pub returns-in-6 : goal.returns-in-6
unfolding look table others pick
returns-in-6 c =
    row_one c.requires.0 2 (omega arith) c.past.ensures (each (λ w. look w table ≡ (2, 1, 0)) (6 ∷ 20 ∷ []) (refl, (refl, tt)) c.in-6.is)

pub returns-in-17 : goal.returns-in-17
unfolding look table others pick
returns-in-17 c =
    row_two c.requires.0 1 (omega arith) c.past-in-17.ensures c.past-in-17-2.ensures
    (each (λ w. look w table ≡ (1, 2, 0)) (17 ∷ 19 ∷ 21 ∷ []) (refl, (refl, (refl, tt))) c.in-17.is)

pub returns-in-18 : goal.returns-in-18
unfolding look table others pick
returns-in-18 c =
    row_two c.requires.0 2 (omega arith) c.past-in-18.ensures c.past-in-18-2.ensures
    (each (λ w. look w table ≡ (2, 2, 0)) (18 ∷ 24 ∷ 26 ∷ []) (refl, (refl, (refl, tt))) c.in-18.is)

pub returns-in-25 : goal.returns-in-25
unfolding look table others pick
returns-in-25 c =
    row_three c.requires.0 1 (omega arith) c.past-in-25.ensures c.past-in-25-2.ensures c.past-in-25-3.ensures
    (each (λ w. look w table ≡ (1, 3, 0)) (25 ∷ []) (refl, tt) c.in-25.is)
