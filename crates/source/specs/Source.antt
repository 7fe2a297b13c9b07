-- What the bytes are that a program read: a file, or a text that wraps one.
use Rattle.std.specs.Prelude.{List, ◌++◌, ℕ, eqb, ltb, take}
use Rattle.std.specs.Prelude.{if◌then◌else◌}
use Rattle.der.specs.Element.{fault}
use Rattle.der.specs.declared.Fault.{Fault}
use Rattle.buffer.specs.Numbers.{too_long}
use Rattle.buffer.specs.Text.{ascii}
use Rattle.buffer.specs.Written.{Outcome}
use Rattle.std.specs.Prelude.{Err, Ok, Result}
use Rattle.text.specs.Text.{number_text}
use Rattle.pem.specs.Numbers.{not_text}
use Rattle.pem.specs.Calls.{imported}

-- the most bytes that a program reads: one more than the longest text has that is imported
abbrev pub read_bytes : ℕ
read_bytes = 88_791

-- what import left at the front of the buffer; if it was refused, the bytes that were read
unfoldable pub file_as : Result ℕ Fault → List ℕ → List ℕ → List ℕ
file_as (Ok n) t buffer = take n buffer
file_as (Err f) t buffer = t

-- the bytes of the file: those that a text wraps, or all that were read
abbrev pub file_in : List ℕ → List ℕ → List ℕ
file_in t buffer = file_as (imported t buffer).answer t (imported t buffer).buffer

-- the line that says how many were unwrapped
unfoldable pub unwrapped_line : ℕ → List ℕ
unwrapped_line n = number_text (ascii "unwrapped ") n ++ ascii " bytes of text: ranges are of these bytes\n"

-- A text that could still go on behind the most bytes that are read is too long, however it ends.
unfoldable pub so_far : Fault → Fault
so_far f = if eqb f.number not_text then (if ltb f.offset read_bytes then f else fault too_long 0) else f

unfoldable pub answered_as : Result ℕ Fault → Result ℕ Fault
answered_as (Ok n) = Ok n
answered_as (Err f) = Err (so_far f)

-- import of a text of which no more was read
abbrev pub imported_so_far : List ℕ → List ℕ → Outcome
imported_so_far t buffer = record { answer = answered_as (imported t buffer).answer; buffer = (imported t buffer).buffer }
