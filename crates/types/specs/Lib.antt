-- What the functions over type references take and give.
pub mod Reading
pub mod Making
