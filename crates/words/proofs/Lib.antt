-- What is proved of storing: words one behind another in the memory (`Stores`), rows one by one
-- (`Rows`), parts in any order (`Apart`), parts of a table where they belong (`InPlace`), a table
-- part by part (`Filled`), the two outcomes (`Whole`).
pub mod Stores
pub mod Rows
pub mod Apart
pub mod InPlace
pub mod Filled
pub mod Whole
