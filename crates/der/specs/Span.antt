-- Where bytes are: x fills the offsets from a up to b - 1 of s, the range a..b (Rule 1.2).
use Rattle.std.specs.Prelude.{◌≡◌, List, [], ◌∷◌, ◌++◌, ℕ, ◌+◌, ◌≤◌, ◌<◌, length, drop}

pub record Span (s : List ℕ) (a b : ℕ) (x : List ℕ) : Type 0 where
  pub bytes : drop a s ≡ x ++ drop b s
  pub size : a + length x ≡ b
  pub inside : b ≤ length s

-- every number of the list is a byte
abbrev pub Bytes : List ℕ → Type 0
Bytes [] = Unit {0}
Bytes (b ∷ bs) = (b < 256) × Bytes bs
