-- Laws of the definitions in specs/, for the proofs of this crate and of those above it.
pub mod RowLaws
pub mod ByteRowLaws
pub mod FormLaws
pub mod ModeLaws
pub mod Numbers
pub mod Accepted
pub mod Shortage
pub mod Given
pub mod Bounds
pub mod Examples
