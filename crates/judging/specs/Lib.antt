-- What a judgement is asked, what it promises, and how its node lies in work.
pub mod Names
pub mod Asking
pub mod Nodes
pub mod Ending
pub mod Leaving
pub mod Marks
