-- Which characters are those of some bytes, front to back.
use Rattle.std.specs.Prelude.{◌≡◌, List, [], ◌∷◌, ◌⊎◌, ℕ, suc, ◌%◌, ◌<◌}
use Rattle.base64_chars.specs.Alphabet.{value_of}
use Rattle.base64_chars.specs.Encoded.{pad}

-- a character that has a value, and what may follow it
pub record Going (Next : Type 0) (c : ℕ) : Type 0 where
  pub letter : value_of c < 64
  pub rest : Next

-- Padding ends it: `=` behind `due` characters of four, and `after` behind that. The unused bits
-- of the last character, whose value is v, are zero: v is a multiple of `unit`.
pub record Padding (q v c : ℕ) (cs : List ℕ) (due unit : ℕ) (after : List ℕ) : Type 0 where
  pub column : q ≡ due
  pub unused : v % unit ≡ 0
  pub first : c ≡ pad
  pub behind : cs ≡ after

-- After q characters of four, the last of value v, the characters complete fours.
abbrev pub Coded : ℕ → ℕ → List ℕ → Type 0
Coded q v [] = q ≡ 0
Coded q v (c ∷ cs) =
    Going (Coded (suc q % 4) (value_of c) cs) c ⊎ (Padding q v c cs 2 16 (pad ∷ []) ⊎ Padding q v c cs 3 4 [])
