-- The numbers, each with its name.
pub mod Numbered
