-- What words of the question and of work denote.
pub mod Sizes
pub mod Names
pub mod States
pub mod Words
pub mod Monotypes
pub mod Places
pub mod Denotes
pub mod Room
pub mod Kinds
