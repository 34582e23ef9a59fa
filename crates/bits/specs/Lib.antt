-- Bits and items: what the contracts of this crate and of those above it cite.
pub mod Bits
pub mod Search
pub mod Rows
pub mod Refusals
pub mod Steps
pub mod Quarters
