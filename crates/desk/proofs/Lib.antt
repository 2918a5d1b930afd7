-- Laws of what the desk program says.
pub mod Saying
