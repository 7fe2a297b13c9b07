-- The loop over the elements of a range.
pub mod Siblings
