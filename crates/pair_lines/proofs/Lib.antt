-- What is proved of the pairs' text: `Theorems` states it. Below: the functions' ways out, lengths,
-- and lines counted.
pub mod Theorems
pub mod Ways
pub mod Short
pub mod Counts
pub mod Numbered
