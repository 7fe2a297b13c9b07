-- What is proved of cells: `Theorems` states it. Below: the ways out of the calls (`Outcomes`), what
-- was stored read back (`Back`), that the fields of every upload fit (`Fitting`), and calls one after
-- another (`Held`).
pub mod Theorems
pub mod Outcomes
pub mod Back
pub mod Fitting
pub mod Held
pub mod Numbered
