-- Laws of the definitions in specs/, for the proofs of this crate and of those above it.
pub mod Ranks
pub mod MaskLaws
pub mod Lengths
pub mod Refusals
pub mod Bounds
