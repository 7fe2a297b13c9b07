-- Laws of writing into a buffer.
pub mod Placing
pub mod Wrote
pub mod Rows
pub mod Writes
pub mod Outcomes
pub mod Decimal
pub mod Numbered
pub mod Theorems
