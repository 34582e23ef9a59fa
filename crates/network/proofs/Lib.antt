-- Laws of the definitions in specs/, for the proofs of this crate and of those above it.
pub mod Significant
pub mod PassLaws
pub mod Agreement
pub mod TableRules
pub mod TurnLaws
pub mod WireLaws
pub mod AnswerLaws
pub mod Examples
