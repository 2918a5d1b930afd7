-- Laws behind the desk program's sizes.
pub mod Answering
