-- Laws that sizes and the rows that are taken keep.
pub mod Nears
pub mod Leaves
pub mod Lengths
pub mod Picks
pub mod Loops
pub mod Taken
pub mod Measures
pub mod MeasuresSafes
pub mod Reading
