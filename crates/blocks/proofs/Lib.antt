-- Laws of the definitions in specs/, for the proofs of this crate and of those above it.
pub mod SumLaws
pub mod BlockLaws
pub mod Numbers
pub mod WriteLaws
pub mod Detection
pub mod OneForm
pub mod Examples
