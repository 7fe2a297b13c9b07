-- What is proved of identity rows: `Theorems` states it. Below: rules for the code, filling, ids by
-- the reading, the answers of the calls.
pub mod Theorems
pub mod Rules
pub mod Fills
pub mod Ids
pub mod Answers
pub mod Certificates
