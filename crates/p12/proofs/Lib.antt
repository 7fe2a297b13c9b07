-- What is proved of the calls together: `Theorems` states it. Below: the ways out of each call
-- (`Gives`, `Wrapping`, `Uploads`), where 11 is due (`Unsound`), what reading leaves in the memory
-- (`Memory`).
pub mod Theorems
pub mod Gives
pub mod Unsound
pub mod Memory
pub mod Wrapping
pub mod Uploads
pub mod Numbered
