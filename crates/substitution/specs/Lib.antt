-- What substitution and application promise.
pub mod Passing
pub mod Calls
