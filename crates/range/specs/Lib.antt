-- Ranges of bytes.
pub mod Bytes
pub mod Range
