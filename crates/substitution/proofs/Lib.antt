-- Laws of runs that make a type.
pub mod Passing
pub mod Paid
pub mod Equations
pub mod Arms
pub mod Ways
