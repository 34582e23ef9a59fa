-- The memory: what the contracts of this crate and of those above it cite.
pub mod Access
pub mod Table
pub mod Memory
pub mod Groups
