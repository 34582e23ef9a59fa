-- Instructions as lists of words: what the contracts of this crate and of those above it cite.
pub mod Alone
pub mod Said
pub mod Sorts
pub mod Worded
