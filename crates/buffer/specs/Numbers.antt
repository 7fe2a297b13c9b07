-- The length of the longest file, and the numbers of refusals that calls on files, tables and
-- buffers report.
use Rattle.std.specs.Prelude.{ℕ}

-- Rule 1.1: the bytes of the longest file
abbrev pub file_bytes : ℕ
file_bytes = 65_535

-- Rule 5.9: a file of more bytes
abbrev pub too_long : ℕ
too_long = 9

-- Rule 5.10: a buffer that is shorter than the file to be written
abbrev pub short_buffer : ℕ
short_buffer = 10

-- Rule 5.11: a table that isn't sound
abbrev pub not_sound : ℕ
not_sound = 11
