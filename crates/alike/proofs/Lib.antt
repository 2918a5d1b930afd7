-- Demand 3 proved: Demand3 has the theorems, WellFormed, Changes, Deciding and Examples show what "alike" reaches, Refusals which calls are run and which
-- codes replies have, the others lead there.
pub mod Related
pub mod Contexts
pub mod Runs
pub mod Types
pub mod Rules
pub mod Words
pub mod Readers
pub mod Reading
pub mod Replies
pub mod Demand3
pub mod WellFormed
pub mod Refusals
pub mod Changes
pub mod Deciding
pub mod Examples
