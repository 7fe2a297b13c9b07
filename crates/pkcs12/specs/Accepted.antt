-- What the theorems are stated over: that a file is accepted, that it follows the standard, its
-- table, the reading that the table shows, and files laid end to end.
use Rattle.std.specs.Prelude.{◌≡◌, List, [], ◌∷◌, ◌++◌, ℕ, ◌≤◌, length}
use Rattle.std.proofs.Math.Option.{Option}
use Rattle.buffer.specs.Numbers.{file_bytes}
use Rattle.pkcs12.specs.Syntax.{Pfx}
use Rattle.pkcs12.specs.Encode.{encode}
use Rattle.pkcs12.specs.Valid.{Valid}
use Rattle.pkcs12.specs.Table.{reading_of}
use Rattle.pkcs12.specs.Walk.{read_file}
use Rattle.pkcs12.specs.declared.table.Table.{Table}
use Rattle.std.specs.Prelude.{Ok}

-- a file is accepted
abbrev pub IsAccepted : List ℕ → Type 0
IsAccepted f = (read_file f).answer ≡ (Ok tt)

-- Rule 4.7: a file is accepted if and only if it is one PFX, with no byte after it, that keeps
-- every rule. The file is what a valid reading x is written as, and has at most 65,535 bytes.
pub record Follows (f : List ℕ) (x : Pfx) : Type 0 where
  pub valid : Valid x
  pub written : encode x ≡ f
  pub size : length f ≤ file_bytes

-- the table of a file, and the reading that it shows
abbrev pub table_from : List ℕ → Table
table_from f = (read_file f).table

abbrev pub reading_from : List ℕ → Option Pfx
reading_from f = reading_of (table_from f) f

-- files laid end to end
unfoldable pub end_to_end : List (List ℕ) → List ℕ
end_to_end [] = []
end_to_end (f ∷ fs) = f ++ end_to_end fs
