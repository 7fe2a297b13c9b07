-- The form of a text, line by line (Rules 11.2 to 11.4).
use Rattle.std.specs.Prelude.{◌≡◌, List, [], ◌∷◌, ◌++◌, ℕ, ◌≤◌, length}
use Rattle.base64_chars.specs.Coded.{Coded}
use Rattle.pem.specs.Wrap.{newline, begin, end}

-- the characters of lines, one line behind another
unfoldable pub joined : List (List ℕ) → List ℕ
joined [] = []
joined (l ∷ ls) = l ++ joined ls

-- lines, each with its newline
unfoldable pub in_lines : List (List ℕ) → List ℕ
in_lines [] = []
in_lines (l ∷ ls) = l ++ newline ∷ in_lines ls

-- every line has 64 characters
abbrev pub Full : List (List ℕ) → Type 0
Full [] = Unit {0}
Full (l ∷ ls) = (length l ≡ 64) × Full ls

-- Rules 11.2 to 11.4: the first line, lines of 64 characters, one of 4 to 64, the last line. The
-- characters are base64: they complete fours, the padding is exact, and unused bits are zero.
pub record InForm (t : List ℕ) : Type 0 where
  -- the lines of characters before the last of them, and the last
  pub full : List (List ℕ)
  pub last : List ℕ
  pub sized : Full full
  pub least : 4 ≤ length last
  pub most : length last ≤ 64
  pub coded : Coded 0 0 (joined full ++ last)
  pub is : t ≡ begin ++ in_lines full ++ last ++ newline ∷ end
