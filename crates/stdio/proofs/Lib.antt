-- Why a frame is in the buffer, and how many bytes are handed on.
pub mod Frames
pub mod Handed
