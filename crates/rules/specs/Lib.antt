-- What rules take and give besides the judgements that they ask.
pub mod Taking
pub mod Built
pub mod Parting
pub mod Sides
pub mod Opening
pub mod Going
