-- Text in lines.
pub mod Text
