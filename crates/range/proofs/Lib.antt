-- Laws of comparing bytes, and of the parts that ranges name.
pub mod SameBytes
pub mod Cut
pub mod Theorems
