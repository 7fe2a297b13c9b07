-- What reading leaves when it fails.
use Rattle.std.specs.Prelude.{ℕ, ◌≤◌, List, ◌++◌, Option, length, take}
use Rattle.std.specs.Io.KnownBytes.{Consumes}

-- what was taken from an input is at the front of the buffer, whatever the number of bytes
abbrev pub AtFront : Option (List ℕ) → Option (List ℕ) → List ℕ → Type 0
AtFront before after buffer = (n : ℕ) × (n ≤ length buffer) × Consumes before after (take n buffer)

-- what was taken from an input is bytes of a frame's length, of which nothing is kept, and then what is at the
-- front of the buffer
abbrev pub TakenFrame : Option (List ℕ) → Option (List ℕ) → List ℕ → Type 0
TakenFrame before after buffer =
    (h : List ℕ) × (length h ≤ 4) × ((n : ℕ) × (n ≤ length buffer) × Consumes before after (h ++ take n buffer))
