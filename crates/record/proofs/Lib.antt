-- What the proofs, and the crates above, cite.
pub mod GoalLaws
pub mod NanosecondLaws
pub mod RefusalLaws
mod Examples
