-- Laws of sections and nodes.
pub mod Sections
pub mod Reports
pub mod Nodes
pub mod Trees
