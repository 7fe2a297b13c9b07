-- What a PKCS #12 file is, twice: as the standard's values and what they are written as (`Syntax`,
-- `Encode`, `Valid`), and as the walk over any bytes that the reading call follows (`Walk`).
-- Between them are the rows (`Values`, `Table`).
pub mod Numbers
pub mod Identifiers
pub mod Syntax
pub mod Encode
pub mod Valid
pub mod Elements
pub mod Values
pub mod Table
pub mod Report
pub mod Walk
pub mod Laid
pub mod Accepted
pub mod Sound
pub mod Checks
pub mod Written
pub mod Delivered
pub mod Alike
pub mod Numbered
