-- The rules by which the functions follow the definitions.
pub mod Rules
pub mod Taken
