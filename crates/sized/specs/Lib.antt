-- The desk program's sizes.
pub mod Sized
