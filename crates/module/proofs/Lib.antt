-- Laws of the definitions in specs/, for the proofs of this crate and of those above it.
pub mod PartLaws
pub mod ActLaws
pub mod RunLaws
pub mod Good
pub mod StepLaws
