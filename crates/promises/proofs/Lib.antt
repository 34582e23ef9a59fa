-- The proofs of the pages of specs/, each in a file of the page's name.
pub mod Results
pub mod Clauses
pub mod DemandOne
pub mod DemandTwo
pub mod DemandModes
pub mod DemandPictures
pub mod DemandThree
pub mod DemandSearch
pub mod DemandClosing
pub mod DemandIsolation
pub mod DemandText
pub mod Examples
pub mod Uniqueness
