-- Lists of instructions as text, both ways: what the contracts of this crate cite.
pub mod Show
pub mod Make
pub mod Results
pub mod Promise
