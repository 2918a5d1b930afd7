-- What the replay program answers.
pub mod Replayed
