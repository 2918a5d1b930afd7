-- Laws of nodes and of the report.
pub mod Nodes
pub mod Writing
pub mod Reports
pub mod Replies
