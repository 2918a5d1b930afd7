-- Document 01 as definitions that the prover computes: its sections "The question", "The reply", "Counting work" and "Rules easy to lose", strict
-- mode and the telephone host, and order 2 of document 02, each sentence above what renders it; a reading of a sentence that has two is cited by its number in
-- docs/DECISIONS.md. Whoever believes these files believes what the program is proved against; laws about them are in the crate laws.
-- Each file rests on those before it.
pub mod Syntax
pub mod Question
pub mod Run
pub mod Contexts
pub mod Types
pub mod Rules
pub mod Reply
pub mod Memory
pub mod Host
