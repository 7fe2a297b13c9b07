-- The attribute reader: its positions, and what it returns.
pub mod Reader
pub mod Report
pub mod Own
