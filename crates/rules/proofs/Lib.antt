-- Laws of what rules do before, between and after their judgements.
pub mod TypeForms
pub mod Standing
pub mod Choices
pub mod Ways
pub mod Premises
pub mod Opening
pub mod Parting
pub mod Under
pub mod Plain
pub mod Before
pub mod Ends
pub mod Between
