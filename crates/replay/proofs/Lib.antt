-- Laws of the replay program.
pub mod Replaying
