-- Laws of runs of entries.
pub mod Search
pub mod Build
pub mod Kept
