-- What the program does with its three files: what the contracts of this crate cite.
pub mod Session
pub mod Shown
pub mod Steps
