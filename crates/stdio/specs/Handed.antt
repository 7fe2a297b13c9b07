-- How many bytes of a buffer are handed on, and which: also before an error.
use Rattle.std.specs.Prelude.{List, Option, ℕ, ◌≤◌, ltb, length, take}
use Rattle.std.specs.Prelude.{if◌then◌else◌}
use Rattle.der.specs.declared.Fault.{Fault}
use Rattle.std.specs.Prelude.{Err, Ok, Result}
use Rattle.std.specs.Io.KnownBytes.{Appends}
use Rattle.text.specs.Text.{refused_line}

-- the first n bytes: none of a buffer that has fewer
abbrev pub front : List ℕ → ℕ → ℕ
front buffer n = if ltb (length buffer) n then 0 else n

-- what a call left at the front of the buffer, or the line of its refusal
unfoldable pub handed : List ℕ → Result ℕ Fault → ℕ
handed buffer (Ok n) = front buffer n
handed buffer (Err f) = length (refused_line f)

-- these bytes
unfoldable pub handed_bytes : List ℕ → Result ℕ Fault → List ℕ
handed_bytes buffer (Ok n) = take (front buffer n) buffer
handed_bytes buffer (Err f) = refused_line f

-- some of these bytes, from the first on, and no others were handed on
abbrev pub Begun : Option (List ℕ) → Option (List ℕ) → List ℕ → Type 0
Begun before after bytes = (k : ℕ) × (k ≤ length bytes) × Appends before after (take k bytes)
