-- What several proofs, and the crates above, cite.
pub mod DateLaws
