-- What the contracts of the library for C cite.
pub mod Left
