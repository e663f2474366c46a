-- What several proofs, and the crates above, cite.
pub mod DurationLaws
pub mod Longest
mod Examples
