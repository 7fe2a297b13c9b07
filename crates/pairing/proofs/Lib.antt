-- What is proved of pairing: `Theorems` states it. Below: rules for the code, the rows one after
-- another, the only match.
pub mod Numbered
pub mod Rules
pub mod Folds
pub mod Only
pub mod Theorems
