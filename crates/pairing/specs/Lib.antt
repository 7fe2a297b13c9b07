-- Pairing: what it answers (`Pairs`), and what the answers say (`Only`).
pub mod Numbers
pub mod Numbered
pub mod Pairs
pub mod Report
pub mod Only
