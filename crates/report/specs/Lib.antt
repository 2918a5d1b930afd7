-- Nodes by their words, and what becomes of a report.
pub mod Nodes
pub mod Reports
