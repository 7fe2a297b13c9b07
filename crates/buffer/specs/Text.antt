-- Text as bytes, and numbers in decimal.
use Rattle.std.specs.Prelude.{List, [], ◌∷◌, ◌++◌, ℕ, zero, suc, ◌+◌, ◌/◌, ◌%◌, ltb}
use Prim.Native.Char.{code}
use Prim.Native.String.{String, [] as none, ◌∷◌ as ◌then◌}
use Rattle.std.specs.Prelude.{if◌then◌else◌}

-- a byte for each character
unfoldable pub ascii : String → List ℕ
ascii none = []
ascii (c then s) = code c ∷ ascii s

-- the digit of a number below 10
abbrev pub digit : ℕ → List ℕ
digit n = (0x30 + n) ∷ []

-- the last digits of a number in decimal, high digits first; the first argument bounds how many
unfoldable pub digits : ℕ → ℕ → List ℕ
digits zero n = []
digits (suc k) n = if ltb n 10 then digit n else digits k (n / 10) ++ digit (n % 10)

-- 20 digits hold every number of 64 bits
abbrev pub places : ℕ
places = 20

unfoldable pub decimal : ℕ → List ℕ
decimal n = digits places n
