-- What is proved of reading: `Theorems` states it of reading into memory. Below: how far each part
-- goes (`Past`), rules for `search` (`Rules`, `Heads`), the pieces make the walk (`Bridge..``), loops
-- over rows (`Shown`, `Loops`), each function's ways on and out, and the memory afterwards (`Filled`).
pub mod Theorems
pub mod Past
pub mod Rules
pub mod Heads
pub mod Bridge
pub mod BridgeRows
pub mod BridgeFile
pub mod Shown
pub mod Loops
pub mod Attributes
pub mod OneBag
pub mod Nesting
pub mod OneSafe
pub mod Whole
pub mod Filled
