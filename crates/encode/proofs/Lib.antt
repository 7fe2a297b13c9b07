-- Laws of sizes that are capped, and of headers and INTEGERs that are written.
pub mod Capped
pub mod Writes
