-- What demand 3 says, before any proof.
pub mod Alike
