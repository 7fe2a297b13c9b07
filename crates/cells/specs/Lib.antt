-- An upload as plain cells.
pub mod Cells
pub mod Fitting
pub mod Numbered
