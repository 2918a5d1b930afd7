-- `plan_of` meets its contract.
use Rattle.reading.specs.Questions.{infers, checks, applies, compares, solves_left, solves_right, runs}
use Rattle.reading.proofs.plan_of.Goals as goal

pub returns-in-Infer : goal.returns-in-Infer
returns-in-Infer c = rw c.in-Infer.is infers

pub returns-in-Check : goal.returns-in-Check
returns-in-Check c = rw c.in-Check.is checks

pub returns-in-InferApp : goal.returns-in-InferApp
returns-in-InferApp c = rw c.in-InferApp.is applies

pub returns-in-Subtype : goal.returns-in-Subtype
returns-in-Subtype c = rw c.in-Subtype.is compares

pub returns-in-InstL : goal.returns-in-InstL
returns-in-InstL c = rw c.in-InstL.is solves_left

pub returns-in-InstR : goal.returns-in-InstR
returns-in-InstR c = rw c.in-InstR.is solves_right

pub returns-in-Resolve : goal.returns-in-Resolve
returns-in-Resolve c = rw c.in-Resolve.is runs
