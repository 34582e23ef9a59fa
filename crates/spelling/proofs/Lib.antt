-- The laws that the proofs of this crate, and of those above it, cite.
pub mod ByteLaws
pub mod FindLaws
pub mod SpellLaws
pub mod Tests
