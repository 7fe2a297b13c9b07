-- What writing into a caller's buffer does.
pub mod Numbers
pub mod Numbered
pub mod Placed
pub mod Wrote
pub mod BigEndian
pub mod Text
pub mod Decimal
pub mod Written
pub mod Report
