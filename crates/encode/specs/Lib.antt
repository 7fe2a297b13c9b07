-- Sizes of what is written, and headers.
pub mod Sizes
pub mod Header
