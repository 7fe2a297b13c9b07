-- Identity rows from a table (`Identities`); storing them in a caller's rows (`Filling`); what a
-- bag's id is by the reading (`Ids`).
pub mod Identities
pub mod Report
pub mod Filling
pub mod Ids
