-- The header of an element.
use Rattle.std.specs.Prelude.{List, ◌∷◌, ℕ}
use Rattle.der.specs.Octets.{length_octets}

-- X.690, 8.1.2 and 8.1.3: the tag, and the length octets of a body of n bytes
unfoldable pub header : ℕ → ℕ → List ℕ
header t n = t ∷ length_octets n
