-- Numbers of two and four bytes, high first.
use Rattle.std.specs.Prelude.{List, [], ◌∷◌, ◌++◌, ℕ, ◌+◌, ◌*◌, ◌/◌, ◌%◌, get_or}

unfoldable pub u16_octets : ℕ → List ℕ
u16_octets n = n / 0x100 ∷ n % 0x100 ∷ []

unfoldable pub u32_octets : ℕ → List ℕ
u32_octets n = u16_octets (n / 0x10000) ++ u16_octets (n % 0x10000)

-- the byte at an offset, and the numbers; a byte past the end counts as 0
abbrev pub byte_at : List ℕ → ℕ → ℕ
byte_at s i = get_or s i 0

abbrev pub u16_at : List ℕ → ℕ → ℕ
u16_at s i = byte_at s i * 0x100 + byte_at s (i + 1)

abbrev pub u32_at : List ℕ → ℕ → ℕ
u32_at s i = u16_at s i * 0x10000 + u16_at s (i + 2)
