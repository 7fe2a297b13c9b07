-- Loading a table from its words (`Loaded`), the tables that are loaded as they were stored
-- (`Wordable`), and memory that holds rows (`Holds`).
pub mod Loaded
pub mod Wordable
pub mod Holds
