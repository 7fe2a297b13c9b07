-- What a row of digits says.
use Rattle.std.specs.Prelude.{List, [], ◌∷◌, ℕ, ◌+◌, ◌-◌, ◌*◌}

-- the number that digits say behind those that say n
unfoldable pub read : ℕ → List ℕ → ℕ
read n [] = n
read n (d ∷ ds) = read (n * 10 + (d - 0x30)) ds

abbrev pub number_of : List ℕ → ℕ
number_of ds = read 0 ds
