-- Files, and what reading each returns.
pub mod Bench
pub mod Telling
