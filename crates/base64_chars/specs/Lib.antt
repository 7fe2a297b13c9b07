-- Base64: characters and values, bytes as characters, which characters are those of bytes.
pub mod Alphabet
pub mod Encoded
pub mod Coded
