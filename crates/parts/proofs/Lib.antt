-- Laws of what the parts program says.
pub mod Showing
