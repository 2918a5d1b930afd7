-- What a reply's four numbers are.
pub mod Codes
pub mod Numbers
