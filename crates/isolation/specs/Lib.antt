-- Whether one station can disturb another: what the contracts of this crate and of those above it cite.
pub mod Isolation
pub mod Numbers
