-- Lists of instructions, their builders, and the one-word machine: what the contracts of this crate and of those above it cite.
pub mod Lists
pub mod Building
pub mod Results
pub mod Field
pub mod Sums
pub mod Searches
pub mod Word
