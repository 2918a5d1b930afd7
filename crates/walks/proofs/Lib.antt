-- Laws of the uncharged walks, arm by arm.
pub mod Names
pub mod Occurs
pub mod Letters
pub mod Same
