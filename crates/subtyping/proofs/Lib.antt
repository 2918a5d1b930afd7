-- Laws of subtyping.
pub mod Arms
pub mod Rules
pub mod Arrow
pub mod Binder
