-- Laws of what words denote.
pub mod Words
pub mod Monotypes
pub mod Places
pub mod Denotes
pub mod States
pub mod Numbered
