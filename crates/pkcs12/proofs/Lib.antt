-- What is proved of reading and of writing: `Theorems` states it. Below:
-- identifiers, rows and readings, what is written is read (Encoded..), what is read was written
-- (Accepted..), one file for one reading, and the number of elements.
pub mod Theorems
pub mod Numbered
pub mod Stored
pub mod Named
pub mod Rows
pub mod Shown
pub mod EncodedParts
pub mod EncodedRows
pub mod Parents
pub mod Grown
pub mod AcceptedParts
pub mod AcceptedOuter
pub mod AcceptedAttributes
pub mod AcceptedBags
pub mod AcceptedSafes
pub mod AcceptedFile
pub mod Unique
pub mod Long
pub mod Refusals
pub mod Corollaries
pub mod Checked
pub mod Writing
pub mod Delivered
pub mod Outcomes
pub mod Alike
pub mod MacInput
