-- `Key::kind` meets its contract.
use borrow.Author.Rules.{rules}
use Rattle.definition.specs.Contexts.{kind_of}
use Rattle.layout.proofs.Key.kind.Goals as goal

pub returns-in-Var : goal.returns-in-Var
unfolding kind_of
returns-in-Var c = search rules

pub returns-in-TVar : goal.returns-in-TVar
unfolding kind_of
returns-in-TVar c = search rules

pub returns-in-ETVar : goal.returns-in-ETVar
unfolding kind_of
returns-in-ETVar c = search rules

pub returns-in-SETVar : goal.returns-in-SETVar
unfolding kind_of
returns-in-SETVar c = search rules

pub returns-in-Mark : goal.returns-in-Mark
unfolding kind_of
returns-in-Mark c = search rules
