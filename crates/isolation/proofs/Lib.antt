-- Laws of the definitions in specs/, for the proofs of this crate and of those above it.
pub mod BreakLaws
pub mod Answers
