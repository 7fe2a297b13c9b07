-- What the bytes are that a program read.
pub mod Source
