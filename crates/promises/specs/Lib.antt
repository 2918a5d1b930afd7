-- What two calls of an exported function have in common.
pub mod Common
