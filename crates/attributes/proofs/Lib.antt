-- What is proved of the attribute reader: `Theorems` states it. Below: rules for the code, the
-- first row that passes a test, calls one after another, the elements of an attribute, the sets of
-- a reading and the rows that show them.
pub mod Theorems
pub mod Rules
pub mod First
pub mod Runs
pub mod Listed
pub mod Sets
pub mod Shown
pub mod Own
