-- The laws of this crate, which others may cite.
pub mod ReadLaws
pub mod ScanLaws
pub mod PutLaws
pub mod MadeLaws
pub mod ShownLaws
pub mod RoundTrip
pub mod Carried
pub mod InWords
pub mod OneForm
pub mod LineNumbers
pub mod ResultLaws
