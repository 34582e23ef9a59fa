-- Laws of the definitions in specs/, for the proofs of this crate and of those above it.
pub mod Answers
pub mod MeetingLaws
pub mod CountLaws
pub mod BeyondLaws
pub mod Reaching
pub mod Examples
