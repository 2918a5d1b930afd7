-- What the functions of instantiation take and give.
pub mod Sides
