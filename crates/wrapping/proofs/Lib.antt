-- The proofs of the theorems on text.
pub mod Account
pub mod Rest
pub mod Ended
pub mod Judged
pub mod Refused
pub mod Form
pub mod Unwrapped
pub mod Outcomes
pub mod Bench
pub mod Theorems
