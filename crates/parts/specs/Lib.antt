-- What is read at a cursor and makes no row.
pub mod InFile
pub mod Steps
