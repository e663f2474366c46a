-- What several proofs, and the crates above, cite.
pub mod TimeLaws
pub mod OffsetLaws
