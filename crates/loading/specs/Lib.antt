-- The table of ends, and a context that is loaded.
pub mod Table
pub mod Loading
