-- The pages: what is promised, each in a file of its own. proofs/ has a file of the same name for each.
pub mod Clauses
pub mod DemandOne
pub mod DemandTwo
pub mod DemandModes
pub mod DemandPictures
pub mod DemandThree
pub mod DemandSearch
pub mod DemandClosing
pub mod DemandIsolation
pub mod DemandText
pub mod Examples
pub mod Uniqueness
