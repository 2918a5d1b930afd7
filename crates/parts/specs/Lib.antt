-- What the parts program says.
pub mod Shown
