-- `bounds_of` meets its contract.
use Rattle.sections.proofs.Sections.{some_part, no_part}
use Rattle.sections.proofs.bounds_of.Goals as goal

pub returns-then-has_section : goal.returns-then-has_section
returns-then-has_section c = search some_part

pub returns : goal.returns
returns c = search no_part
