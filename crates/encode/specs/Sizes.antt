-- Sizes of what is written.
use Rattle.std.specs.Prelude.{ℕ, ◌+◌, leb, length}
use Rattle.std.specs.Prelude.{if◌then◌else◌}
use Rattle.der.specs.Octets.{length_octets}
use Rattle.buffer.specs.Numbers.{file_bytes}

-- a size, or one byte more than the longest file has if it is more than that
unfoldable pub capped : ℕ → ℕ
capped n = if leb n file_bytes then n else file_bytes + 1

-- an element whose body has n bytes: tag, length octets, body
unfoldable pub element_size : ℕ → ℕ
element_size n = 1 + length (length_octets n) + n
