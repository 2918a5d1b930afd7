-- What stands for words of the report, and what it means to know their length and to write them.
pub mod Spelling
pub mod Types
pub mod Contexts
pub mod After
