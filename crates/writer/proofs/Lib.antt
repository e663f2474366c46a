-- What several proofs, and the crates above, cite.
pub mod StampLaws
pub mod UsualLaws
pub mod Longest
mod Examples
