-- Laws behind the functions for C.
pub mod Replying
