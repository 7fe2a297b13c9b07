-- Storing the identity rows of a table in a caller's rows. No rule is about this; 11, 10 and what a
-- refusal leaves are those of the writer (Rules 6.8 to 6.10).
use Rattle.std.specs.Prelude.{List, ◌++◌, ℕ, ltb, length, drop}
use Rattle.std.specs.Prelude.{if◌then◌else◌}
use Rattle.der.specs.Element.{fault}
use Rattle.buffer.specs.Numbers.{short_buffer, not_sound}
use Rattle.pkcs12.specs.Written.{file_of, on_file}
use Rattle.pkcs12.specs.declared.table.Table.{Table}
use Rattle.der.specs.declared.Fault.{Fault}
use Rattle.std.specs.Prelude.{Err, Ok, Result}
use Rattle.pairing.specs.declared.IdentityRow.{IdentityRow}
use Rattle.identities.specs.Identities.{identities_of}

-- the answer, and the caller's rows afterwards
pub record Filled : Type 0 where
  pub answer : Result ℕ Fault
  pub rows : List IdentityRow

-- a refusal leaves everything as before, and its offset is 0
abbrev pub refusal : ℕ → List IdentityRow → Filled
refusal number out = record { answer = Err (fault number 0); rows = out }

-- the rows are at the front, their number is returned, and what is behind them is as before
abbrev pub success : List IdentityRow → List IdentityRow → Filled
success xs out = record { answer = Ok (length xs); rows = xs ++ drop (length xs) out }

-- 11 for a table that is not sound, then 10 for fewer rows than there are bags
unfoldable pub fill_of : Table → List ℕ → List IdentityRow → Filled
fill_of t s out =
    on_file (file_of t s)
    (refusal not_sound out)
    (λ f. if ltb (length out) t.bag_count then refusal short_buffer out else success (identities_of t s) out)
