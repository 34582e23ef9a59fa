-- Closing up and spreading: what the contracts of this crate and of those above it cite.
pub mod Closing
