-- What the bytes are, by what import answered; the statements.
pub mod Sources
pub mod Theorems
