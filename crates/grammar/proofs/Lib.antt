-- What the crates above cite.
mod Examples
pub mod Exact
