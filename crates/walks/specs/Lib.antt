-- What the uncharged walks take and give.
pub mod Walks
pub mod Letters
