-- Laws that the code of this crate leans on.
pub mod Rules
pub mod Whole
