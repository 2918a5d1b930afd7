-- What the library's entry promises.
pub mod Entry
