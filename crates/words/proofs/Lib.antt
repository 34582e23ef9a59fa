-- Laws of the plain order, for the proofs of this crate and of those above it.
pub mod PlainLaws
