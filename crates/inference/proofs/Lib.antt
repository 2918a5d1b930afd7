-- Laws of the cycle infer, check, infer_app: how its rules start, what a premise gives them, and for each rule the laws by which its needs are met.
pub mod Starting
pub mod Related
pub mod Premise
pub mod InferOne
pub mod InferTwo
pub mod InferIf
pub mod Checking
pub mod Applying
pub mod Choosing
