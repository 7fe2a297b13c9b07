-- The proofs that the account and the walk agree.
pub mod Headers
pub mod Bodies
pub mod Links
pub mod Loops
pub mod Agree
pub mod Opaque
pub mod Parts
pub mod Mac
pub mod Bags
pub mod File
pub mod Kept
pub mod Fronts
pub mod Refused
pub mod Outermost
pub mod Theorems
