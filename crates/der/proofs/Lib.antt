-- The laws of `der`, and the rules that close most needs of its functions.
pub mod Named
pub mod Numbered
pub mod Promised
pub mod Exits
pub mod Choices
pub mod Octets
pub mod Content
pub mod Placed
pub mod Many
pub mod Opaque
pub mod Spans
pub mod Header
pub mod Values
pub mod Trees
pub mod Grammar
pub mod Laws
