-- The steps of the walk as the code takes them (`Steps`), and the memory that it stores rows in
-- (`Memory`).
pub mod Steps
pub mod Memory
