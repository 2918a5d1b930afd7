-- The sections of a report: where they stand, and what they hold; and the nodes of its tree.
pub mod Sections
pub mod Outcomes
pub mod Nodes
