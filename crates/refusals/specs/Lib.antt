-- Which refusal a file gets, as a function of byte lists. With the walk of
-- `pkcs12` (`read_file`) it shares only a choice, the test of bytes for equality and `number`: every
-- tag, identifier, size and number is written out again.
pub mod Element
pub mod Bodies
pub mod Grammar
