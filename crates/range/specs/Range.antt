-- Ranges of bytes.
use Rattle.std.specs.Prelude.{Bool, List, ℕ, min, leb, ltb, length}
use Rattle.std.proofs.Math.Seq.{slice}
use Rattle.std.specs.Prelude.{if◌then◌else◌}
use Rattle.der.specs.Choice.{both}
use Rattle.der.specs.declared.Cursor.{Cursor}
use Rattle.range.specs.declared.Range.{Range}

-- Rule 1.2: a range a..b has the bytes a up to b - 1
abbrev pub range : ℕ → ℕ → Range
range a b = record { start = a; end = b }

abbrev pub no_range : Range
no_range = range 0 0

-- the bytes of s that a range names
abbrev pub bytes_in : List ℕ → Range → List ℕ
bytes_in s r = slice r.start r.end s

-- whether a range lies in the bytes s
unfoldable pub lies : List ℕ → Range → Bool
lies s r = both (leb r.start r.end) (leb r.end (length s))

-- the greatest16 offset that a range holds: of 16 bits
abbrev pub greatest16 : ℕ
greatest16 = 65_535

-- the range of a body; an offset past the greatest16 counts as that
unfoldable pub body_range : Cursor → Range
body_range c = range (min c.at greatest16) (min c.end greatest16)

-- a range that lies in no bytes
abbrev pub nowhere : Range
nowhere = range 1 0

-- the range of two words
unfoldable pub word_range : ℕ → ℕ → Range
word_range a b = if ltb greatest16 a then nowhere else if ltb greatest16 b then nowhere else range a b
