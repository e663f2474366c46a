-- What several proofs, and the crates above, cite.
pub mod RunLaws
pub mod PartLaws
pub mod Exact
