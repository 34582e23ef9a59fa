-- What the stores of a list reach: what the contracts of this crate and of those above it cite.
pub mod Reach
pub mod Reaching
