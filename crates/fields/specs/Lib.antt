-- The array at one line, and the values of fields: the names in which the laws of this crate are stated.
pub mod Line
pub mod Items
pub mod Value
pub mod Marks
pub mod Closing
pub mod Isolation
