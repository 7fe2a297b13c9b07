-- The elements of a range of bytes.
pub mod Elements
