-- Pictures: what the contracts of this crate cite, beside those of contents.
pub mod Picture
pub mod Conversion
