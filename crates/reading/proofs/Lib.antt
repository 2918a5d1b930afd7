-- Laws of reading.
pub mod Depth
pub mod Items
pub mod Types
pub mod Expressions
pub mod Contexts
pub mod Sections
pub mod Questions
