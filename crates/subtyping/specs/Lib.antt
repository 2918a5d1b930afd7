-- What the functions of subtyping take and give.
pub mod Arms
