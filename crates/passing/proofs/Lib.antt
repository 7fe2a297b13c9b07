-- The proofs that accepted files pass the check of an upload.
pub mod Trees
pub mod File
pub mod Theorems
