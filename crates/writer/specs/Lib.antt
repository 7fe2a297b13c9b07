-- What writing does to the buffer.
pub mod Heads
pub mod Wrote
pub mod Rows
