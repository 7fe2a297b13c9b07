-- What is proved of accepted files and the check of an upload.
pub mod Passing
