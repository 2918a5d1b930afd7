-- `gives_type` meets its contract.
use borrow.Author.Tests.{ne_eqb}
use Rattle.definition.specs.Reply.{gives_type}
use Rattle.report.proofs.gives_type.Goals as goal

pub returns-in-1 : goal.returns-in-1
unfolding gives_type
returns-in-1 c = rw c.in-1.is

pub returns-in-3 : goal.returns-in-3
unfolding gives_type
returns-in-3 c = rw c.in-3.is

pub returns-in-7 : goal.returns-in-7
unfolding gives_type
returns-in-7 c = rw c.in-7.is

pub returns-in_default : goal.returns-in_default
unfolding gives_type
returns-in_default c = search ne_eqb
