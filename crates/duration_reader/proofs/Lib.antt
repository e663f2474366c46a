-- What several proofs, and the crates above, cite.
pub mod MeaningLaws
mod Examples
