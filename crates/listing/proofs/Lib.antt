-- What is proved of the listing: `Theorems` states it. Below: the attribute rows of a bag, counted;
-- lengths, and lines computed.
pub mod Theorems
pub mod Loops
pub mod Short
pub mod Bench
pub mod Numbered
