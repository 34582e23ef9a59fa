-- Laws of the definitions in specs/, for the proofs of this crate and of those above it.
pub mod ListLaws
pub mod PutLaws
pub mod OneLaws
pub mod TwoLaws
pub mod Refusals
pub mod SearchRefusals
pub mod Bounds
pub mod Folds
pub mod Takes
pub mod Carries
pub mod Marks
pub mod Adder
pub mod Comparing
pub mod Examples
pub mod ResultLaws
