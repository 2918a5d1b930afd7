-- Laws of judgements: nodes that stay, a judgement's steps in the definition, a rule on its way, a whole judgement.
pub mod Asking
pub mod Nodes
pub mod Steps
pub mod Chain
pub mod Judgements
pub mod Whole
pub mod Entries
pub mod Paying
