-- The flip network: what the contracts of this crate and of those above it cite.
pub mod Shifts
pub mod Unlisted
pub mod Pass
pub mod Wired
pub mod Answer
pub mod Turn
pub mod Steps
