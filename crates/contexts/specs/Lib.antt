-- What the functions on contexts promise.
pub mod Search
pub mod Build
