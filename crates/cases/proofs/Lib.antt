-- What is said of the files is computed: `Theorems` states it.
pub mod Theorems
pub mod Bench
