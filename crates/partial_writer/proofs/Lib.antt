-- The examples.
mod Examples
