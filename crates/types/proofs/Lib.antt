-- Laws of types by reference.
pub mod Codes
pub mod Records
pub mod Reading
pub mod Words
pub mod Held
pub mod Cases
