-- What the program prints: what the contracts of this crate cite.
pub mod Report
