-- What the functions over an expression's parts take and give.
pub mod Forms
