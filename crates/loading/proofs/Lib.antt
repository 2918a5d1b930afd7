-- Laws of the table of ends and of loading.
pub mod Table
pub mod Loading
