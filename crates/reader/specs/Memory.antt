-- What the walk requires of the memory, and what its answer and the memory say of the walk. Nothing
-- here has to be believed but `read_into`: the other calls' contracts name `read_file`.
use Rattle.std.specs.Prelude.{true, ◌≡◌, List, ◌++◌, ℕ, ◌+◌, ◌≤◌, ◌<◌, ltb, length, drop}
use Rattle.std.specs.Prelude.{if◌then◌else◌}
use Rattle.der.specs.Element.{fault, on_result}
use Rattle.der.specs.declared.Fault.{Fault}
use Rattle.buffer.specs.Numbers.{short_buffer}
use Rattle.pkcs12.specs.Numbers.{safe_rows}
use Rattle.pkcs12.specs.Table.{table_of}
use Rattle.pkcs12.specs.Walk.{Walked, Refused, Went, refused, read_file}
use Rattle.pkcs12.specs.declared.kind.BagKind.{BagKind}
use Rattle.std.specs.Prelude.{Err, Ok, Result, ⊤}
use Rattle.pkcs12.specs.declared.answers.Reading.{Reading}
use Rattle.words.specs.Layout.{table_words, greatest_word}
use Rattle.words.specs.Stored.{words_of}
use Rattle.words.specs.declared.Counts.{Counts}
use Rattle.load.specs.Holds.{Holds, rows_at}
use Rattle.reader.specs.Steps.{is_nested, start_count}
use Rattle.reader.specs.declared.rows.Progress.{Progress}
use Rattle.reader.specs.declared.Summary.{Summary}

-- ---- the walk

-- what the code requires of the memory and of the counts at an offset
pub record Ready (m : List ℕ) (k : Counts) (at : ℕ) : Type 0 where
  pub held : Holds m (rows_at m k)
  pub counted : k.elements ≤ at + start_count

-- the same before the row of a plain safe whose contents begin there
pub record ReadyForSafe (s m : List ℕ) (k : Counts) (at : ℕ) : Type 0 where
  pub held : Holds m (rows_at m k)
  pub few : k.safes < safe_rows
  pub counted : k.elements + 4 ≤ at + start_count
  pub inside : at ≤ length s

-- the same in [0] of a bag of this kind and number
pub record Inside (m : List ℕ) (kind : BagKind) (number : ℕ) (k : Counts) (at : ℕ) : Type 0 where
  pub held : Holds m (rows_at m k)
  pub fits : number < greatest_word
  pub ready : is_nested kind ≡ true → Ready m k at

-- the walk that an answer and the memory show
abbrev pub shown_in : List ℕ → Result Progress Fault → Walked
shown_in m r = on_result r Refused (λ y. Went (rows_at m y.counts) y.next)

pub record Shown (m : List ℕ) (r : Result Progress Fault) (x : Walked) : Type 0 where
  pub walk : x ≡ shown_in m r
  pub held : (y : Progress) → r ≡ Ok y → Holds m (rows_at m y.counts)

-- ---- the whole file

-- the reading that an answer and the memory show
abbrev pub reading_in : List ℕ → Result Summary Fault → Reading
reading_in m r =
    on_result r refused (λ y. record { answer = Ok tt; table = table_of (rows_at m y.counts) y.mac })

pub record Summed (m : List ℕ) (r : Result Summary Fault) (x : Reading) : Type 0 where
  pub reading : x ≡ reading_in m r
  pub held : (y : Summary) → r ≡ Ok y → Holds m (rows_at m y.counts)

-- ---- what `read_into` returns, and the memory afterwards

pub record Into : Type 0 where
  pub answer : Result ⊤ Fault
  pub memory : List ℕ

abbrev pub into : Result ⊤ Fault → List ℕ → Into
into a m = record { answer = a; memory = m }

-- 10 if the memory is shorter than a table, whatever the file. Else the memory begins with the words
-- of the reading's table, and what is behind them is as before; so for every file, since a refused
-- one has the empty table (Rule 5.38).
unfoldable pub read_into : List ℕ → List ℕ → Into
read_into f m =
    if ltb (length m) table_words then into (Err (fault short_buffer 0)) m else
    into (read_file f).answer (words_of (read_file f).table ++ drop table_words m)
