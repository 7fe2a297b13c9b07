-- The words of a table: the offset of each (`Layout`), the words (`Stored`), storing them one by
-- one in a caller's memory (`InPlace`), and what the private functions store (`Steps`).
pub mod Layout
pub mod Stored
pub mod InPlace
pub mod Steps
