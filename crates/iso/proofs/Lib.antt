-- What several proofs, and the crates above, cite.
pub mod Signs
pub mod DateLaws
pub mod LeapLaws
mod Examples
