-- The text of a file's pairs, what writing it comes to, and how many lines a text has.
pub mod Lines
pub mod Listed
pub mod Counts
pub mod Numbered
