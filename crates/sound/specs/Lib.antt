-- What measuring a table returns.
pub mod Measured
pub mod Report
