-- Whole texts as lists of instructions and items: what the contracts of this crate cite.
pub mod Words
pub mod Fields
pub mod Act
pub mod Acts
pub mod Statements
pub mod Assembly
pub mod Steps
pub mod Limits
pub mod Items
pub mod Results
