-- Laws of a reply's length.
pub mod Lengths
