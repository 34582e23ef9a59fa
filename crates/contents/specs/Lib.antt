-- Files of blocks and what they hold: what the contracts of this crate and of those above it cite.
pub mod Moved
pub mod File
pub mod Kinds
pub mod Content
pub mod Payloads
pub mod Numbers
