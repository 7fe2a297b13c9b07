-- Bounds on the bytes of a text.
pub mod Short
