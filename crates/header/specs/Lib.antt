-- The header of an element, byte by byte.
pub mod Numbers
pub mod Numbered
pub mod Header
