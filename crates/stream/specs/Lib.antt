-- The check of an upload byte by byte.
pub mod Upload
pub mod Bulk
pub mod Report
