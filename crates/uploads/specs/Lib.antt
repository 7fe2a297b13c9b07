-- What the check of an upload comes to.
pub mod Whole
pub mod Same
pub mod Certain
pub mod Judged
pub mod Bench
