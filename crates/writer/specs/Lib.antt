-- The definitions that the contracts of this crate, and the crates above, cite.
pub mod Stamp
pub mod Usual
