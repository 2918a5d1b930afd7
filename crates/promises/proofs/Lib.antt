-- Demand 1's "exactly one", demand 3, the count, order 5 and a report's parts, through the contracts of the exported functions; Main restates the
-- theorems of the three demands and of orders, Further all others.
pub mod One
pub mod Demand3
pub mod Count
pub mod Never16
pub mod OtherBudgets
pub mod Reports
pub mod Main
pub mod Further
