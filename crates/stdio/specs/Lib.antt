-- What can be promised of standard input and output: a frame in a buffer (`Frame`), bytes handed on
-- (`Handed`), also before an error, and what an error of reading leaves (`Taken`).
pub mod Frame
pub mod Handed
pub mod Taken
