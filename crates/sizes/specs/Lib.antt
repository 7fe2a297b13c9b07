-- Sizes of what a table's reading is written as, and which rows it takes.
pub mod Bodies
pub mod Picked
pub mod Sizes
pub mod Report
