-- The registers: what the contracts of this crate and of those above it cite.
pub mod Modes
pub mod Rows
pub mod Logic
pub mod Resolver
