-- What the desk program says.
pub mod Said
