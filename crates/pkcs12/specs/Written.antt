-- What writing a table's file does (Rules 6.1, 6.8 to 6.10).
use Rattle.std.specs.Prelude.{List, ℕ, ltb, length}
use Rattle.std.proofs.Math.Option.{Option, some}
use Rattle.std.proofs.Math.Option as option
use Rattle.std.specs.Prelude.{if◌then◌else◌}
use Rattle.buffer.specs.Numbers.{file_bytes, too_long, short_buffer, not_sound}
use Rattle.pkcs12.specs.Syntax.{Pfx}
use Rattle.pkcs12.specs.Encode.{encode}
use Rattle.pkcs12.specs.Table.{reading_of}
use Rattle.pkcs12.specs.Checks.{keeps_rules}
use Rattle.pkcs12.specs.declared.table.Table.{Table}
use Rattle.buffer.specs.Written.{Outcome, refusal, success}

abbrev pub written_as : Option Pfx → Option (List ℕ)
written_as option.none = option.none
written_as (some x) = some (encode x)

-- the file of a table over bytes s: what its reading is written as; a table that is not sound has
-- none
unfoldable pub file_of : Table → List ℕ → Option (List ℕ)
file_of t s = if keeps_rules t s then written_as (reading_of t s) else option.none

abbrev pub on_file : {A : Type 0} → Option (List ℕ) → A → (List ℕ → A) → A
on_file option.none unsound good = unsound
on_file (some f) unsound good = good f

-- Rule 6.8: refusals in the order 11, 9, 10
unfoldable pub write_file : Table → List ℕ → List ℕ → Outcome
write_file t s buffer =
    on_file (file_of t s)
    (refusal not_sound buffer)
    (λ f.
    if ltb file_bytes (length f) then refusal too_long buffer else
    if ltb (length buffer) (length f) then refusal short_buffer buffer else
    success f buffer)
