-- How many lines a text has, and how many key bags a table.
use Rattle.std.specs.Prelude.{List, [], ◌∷◌, ℕ, zero, suc, ◌+◌, eqb, get_or}
use Rattle.std.specs.Prelude.{if◌then◌else◌}
use Rattle.pkcs12.specs.Table.{no_bag}
use Rattle.pkcs12.specs.declared.kind.BagKind.{BagKind}
use Rattle.pkcs12.specs.declared.table.Table.{Table}
use Rattle.pkcs12.specs.Table.{bags_counted}
use Rattle.pairing.specs.Pairs.{is_key}

-- every line ends in one byte 0A
unfoldable pub lines_in : List ℕ → ℕ
lines_in [] = 0
lines_in (b ∷ text) = (if eqb b 0x0A then 1 else 0) + lines_in text

abbrev pub one_if_key : BagKind → ℕ
one_if_key kind = if is_key kind then 1 else 0

-- of the first n bag rows, those of keys
unfoldable pub keys_among : Table → ℕ → ℕ
keys_among t zero = 0
keys_among t (suc n) = keys_among t n + one_if_key (get_or t.bags n no_bag).kind

-- of the rows that are counted and that there are
abbrev pub key_bags : Table → ℕ
key_bags t = keys_among t (bags_counted t)
