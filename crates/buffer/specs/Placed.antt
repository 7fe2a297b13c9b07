-- What a function that writes into a caller's buffer does, of bytes as of wider words.
use Rattle.std.specs.Prelude.{◌≡◌, List, [], ◌++◌, ℕ, zero, suc, ◌+◌, ◌-◌, ◌≤◌, min, length, take}
use Rattle.std.proofs.lemmas.List.Edits.{sets}
use Rattle.buffer.specs.Numbers.{file_bytes}

-- the greatest offset; no buffer is longer
abbrev pub greatest : ℕ
greatest = 0xFFFFFFFFFFFFFFFF

-- of x, at an offset of a buffer, the bytes that have an offset
abbrev pub counted : ℕ → List ℕ → List ℕ
counted at x = take (greatest - at) x

-- the offset behind n bytes
abbrev pub behind : ℕ → ℕ → ℕ
behind at n = at + min (greatest - at) n

-- The buffer is d before and e afterwards: x is in it from an offset on, as far as the buffer goes,
-- nothing else changed, and r is the offset behind x.
pub record Placed (d : List ℕ) (at : ℕ) (x e : List ℕ) (r : ℕ) : Type 0 where
  pub bytes : e ≡ sets d at (counted at x)
  pub next : r ≡ behind at (length x)

-- the condition that sizes which are capped need: x is no longer than a file
pub record Short (x : List ℕ) : Type 0 where
  pub short : length x ≤ file_bytes

-- the lists f 0 to f (n - 1), one behind another
unfoldable pub each : {A : Type 0} → (ℕ → List A) → ℕ → List A
each f zero = []
each f (suc n) = each f n ++ f n
