-- The text of a listing, and what writing it into a buffer comes to.
pub mod Lines
pub mod Listed
pub mod Numbered
