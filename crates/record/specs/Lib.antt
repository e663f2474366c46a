-- The definitions that the contracts of this crate, and the crates above, cite.
pub mod Goals
pub mod Refusals
pub mod Separators
pub mod Steps
