-- Words as numbers: what the contracts of this crate and of those above it cite.
pub mod Tables
pub mod Words
