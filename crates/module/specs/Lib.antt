-- The array module: what the contracts of this crate and of those above it cite.
pub mod Act
pub mod Ready
pub mod Run
pub mod Left
