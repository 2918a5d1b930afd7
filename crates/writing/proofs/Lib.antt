-- Laws of writing.
pub mod Placing
pub mod Spelling
pub mod Steps
pub mod Types
pub mod Copying
pub mod Loops
pub mod Contexts
pub mod After
