-- The rule of a table, and the laws of base64.
pub mod Tables
pub mod Alphabet
pub mod Encoded
