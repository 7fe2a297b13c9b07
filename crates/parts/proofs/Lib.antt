-- Laws of what is read at a cursor and makes no row: how far each part goes (`Past`), and the rules
-- that close most needs of functions that read (`Rules`).
pub mod Past
pub mod Rules
