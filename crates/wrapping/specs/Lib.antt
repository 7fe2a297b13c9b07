-- What the theorems on text are stated over.
pub mod Text
pub mod Form
pub mod Outcomes
pub mod Bench
