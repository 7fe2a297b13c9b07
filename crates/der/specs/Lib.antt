-- The definitions that the contracts of `der` cite, and those that its laws are stated over. What
-- the code does, front to back, with every refusal: `Element`, `Content`, `Opaque`. What X.690
-- says, as functions that write: `Octets`, `Tree`.
pub mod Choice
pub mod Named
pub mod Numbers
pub mod Numbered
pub mod Element
pub mod Content
pub mod Many
pub mod Opaque
pub mod Report
pub mod Octets
pub mod Tree
pub mod Span
pub mod Follows
pub mod Overrun
