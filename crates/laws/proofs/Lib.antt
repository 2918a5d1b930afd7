-- Laws about the definition. Nothing here has to be believed: each is proved, and none changes what the definition says.
pub mod Cases
pub mod Steps
pub mod Letters
pub mod Codes
pub mod Congruence
pub mod Depth
pub mod LaterPasses
pub mod Budgets
pub mod Never16
pub mod Tried
pub mod OtherBudgets
pub mod LeftOut
pub mod Count
pub mod Rings
pub mod Endless
