-- The laws that the proofs of this crate, and of those above it, cite.
pub mod Leads
pub mod SaidLaws
pub mod SortLaws
pub mod Formed
pub mod Kept
