-- What is said of bound names, budgets, codes, the count and rings of solutions, before any proof.
pub mod Letters
pub mod Codes
pub mod OtherBudgets
pub mod Count
pub mod Rings
