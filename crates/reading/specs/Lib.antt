-- What reading answers, and what it says of the question.
pub mod Faults
pub mod Items
pub mod Contexts
pub mod Sections
pub mod Questions
