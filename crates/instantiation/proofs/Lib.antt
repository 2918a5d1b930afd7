-- Laws of instantiation.
pub mod Sides
pub mod Handing
pub mod Equations
pub mod Solving
pub mod Arrow
pub mod Binder
pub mod Choosing
