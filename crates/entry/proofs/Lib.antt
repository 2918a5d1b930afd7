-- Laws of the entry.
pub mod Clearing
pub mod Refusing
pub mod Answering
pub mod Opening
pub mod Asking
pub mod Resolving
pub mod Finishing
pub mod Running
