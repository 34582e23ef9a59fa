-- Laws of the definitions in specs/, for the proofs of this crate and of those above it.
pub mod LogicLaws
pub mod ResolverLaws
pub mod Examples
pub mod ModeLaws
pub mod RowLaws
