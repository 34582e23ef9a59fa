-- Laws of the memory, for the proofs of this crate and of those above it.
pub mod AccessLaws
pub mod TableLaws
pub mod GroupLaws
pub mod MemoryLaws
pub mod StoreLaws
pub mod TableDemand
pub mod Examples
