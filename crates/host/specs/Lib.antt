-- The functions for C.
pub mod Host
