-- The block on disk: what the contracts of this crate and of those above it cite.
pub mod Sums
pub mod Block
pub mod Swap
