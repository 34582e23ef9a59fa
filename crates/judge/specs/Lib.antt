-- Instructions and the judge: what the contracts of this crate and of those above it cite.
pub mod Kinds
pub mod Instructions
pub mod Modes
pub mod Answers
pub mod ByteRows
pub mod Judge
pub mod Numbers
pub mod Steps
