-- Laws that writing leans on.
pub mod Puts
pub mod Elements
pub mod Rowing
pub mod RowingSafes
pub mod Whole
