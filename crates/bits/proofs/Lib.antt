-- Laws of the definitions in specs/, for the proofs of this crate and of those above it.
pub mod RefusalLaws
pub mod Binary
pub mod Xor
pub mod Digits
pub mod Items
pub mod ByteLaws
pub mod Writes
pub mod Puts
pub mod Tests
pub mod QuarterLaws
pub mod FlipLaws
pub mod Search
pub mod Find
pub mod Rows
pub mod Counts
