-- What the calls for C return and store.
pub mod Calls
pub mod Uploads
pub mod Numbered
