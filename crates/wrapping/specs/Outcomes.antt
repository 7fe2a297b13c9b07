-- When import and export return what.
use Rattle.std.specs.Prelude.{◌≡◌, List, ◌⊎◌, ℕ, ◌≤◌, ◌<◌, length}
use Rattle.der.specs.declared.Fault.{Fault}
use Rattle.pem.specs.Wrap.{wrap}
use Rattle.wrapping.specs.Text.{Text}

-- the numbers of refusals that import and export return
abbrev pub TextNumber : Fault → Type 0
TextNumber f = (f.number ≡ 16) ⊎ ((f.number ≡ 9) ⊎ (f.number ≡ 10))

-- ---- import (Rules 11.6, 11.7)

-- t is the text of n bytes, n is at most 65,535, and a buffer has space for them
pub record Imports (t buffer : List ℕ) (n : ℕ) : Type 0 where
  pub text : Text t
  pub number : n ≡ length text.bytes
  pub short : n ≤ 65_535
  pub space : n ≤ length buffer

-- 9: t is the text of more bytes
pub record WrapsMore (t : List ℕ) (p : ℕ) : Type 0 where
  pub text : Text t
  pub long : 65_535 < length text.bytes
  pub offset : p ≡ 0

-- 10: t is the text of 1 to 65,535 bytes, and the buffer is shorter than they are
pub record LacksSpace (t buffer : List ℕ) (p : ℕ) : Type 0 where
  pub text : Text t
  pub short : length text.bytes ≤ 65_535
  pub lacking : length buffer < length text.bytes
  pub offset : p ≡ 0

-- ---- export (Rule 11.8)

-- there are 1 to 65,535 bytes, their text has n, and a buffer has space for it
pub record Exports (x buffer : List ℕ) (n : ℕ) : Type 0 where
  pub some : 1 ≤ length x
  pub short : length x ≤ 65_535
  pub number : n ≡ length (wrap x)
  pub space : n ≤ length buffer

-- 10: there are 1 to 65,535 bytes, and the buffer is shorter than their text
pub record LacksTextSpace (x buffer : List ℕ) (p : ℕ) : Type 0 where
  pub some : 1 ≤ length x
  pub short : length x ≤ 65_535
  pub lacking : length buffer < length (wrap x)
  pub offset : p ≡ 0
