-- What is proved of loading, and of storing and loading: `Theorems` states it. Below: rows one by
-- one (`Rows`), what was stored loaded again (`Back`, `Loading`), the table of an accepted file
-- (`Fitting`); memory that holds rows (`Held`, `Counted`, `Finished`).
pub mod Theorems
pub mod Rows
pub mod Back
pub mod Loading
pub mod Fitting
pub mod Held
pub mod Counted
pub mod Finished
