-- Laws of an expression's parts.
pub mod Forms
