-- Laws of the definitions in specs/, for the proofs of this crate and of those above it.
pub mod MovedLaws
pub mod FileLaws
pub mod WriteLaws
pub mod AnswerLaws
pub mod Outcomes
pub mod Numbers
pub mod Bounds
pub mod RoundTrip
pub mod OneForm
pub mod PayloadLaws
pub mod Detection
pub mod Examples
