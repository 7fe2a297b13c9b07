-- What is proved of reading into a caller's memory, for any bytes f and any memory m. `read_into f m`:
-- the answer, and the memory afterwards. `IsAccepted f`: `read_file f` accepts. `table_from f`: the
-- table of its reading. `words_of t`: the words of a table. `table_in m`: the table that is loaded from
-- memory. The proofs are elsewhere.
use mathlib.Core.Path.{◌≡◌}
use mathlib.Core.List.{List, ◌++◌}
use Prim.Native.Nat.{ℕ, ◌≤◌, ◌<◌}
use lib.ListN.{length, drop, replicate}
use Rattle.der.specs.Element.{fault}
use Rattle.der.specs.Span.{Bytes}
use Rattle.der.specs.declared.Fault.{Fault}
use Rattle.buffer.specs.Numbers.{short_buffer}
use Rattle.pkcs12.specs.Accepted.{IsAccepted, table_from}
use Rattle.pkcs12.specs.Walk.{read_file}
use Rattle.std.specs.Prelude.{Err, Ok}
use Rattle.words.specs.Layout.{table_words}
use Rattle.words.specs.Stored.{words_of}
use Rattle.load.specs.Loaded.{table_in}
use Rattle.reader.specs.Memory.{into, read_into}
use Rattle.reader.proofs.Filled as filled

-- Memory that is shorter than a table is refused by 10 at 0, whatever the file, and stays as it was.
pub short_is_10 : (f m : List ℕ) → length m < table_words → read_into f m ≡ into (Err (fault short_buffer 0)) m
short_is_10 = filled.into_short

module _ (f m : List ℕ) (h : table_words ≤ length m) where
  -- An accepted file leaves the words of its table, whatever was there; words behind them stay.
  pub accepted_is_stored : IsAccepted f → read_into f m ≡ into (Ok tt) (words_of (table_from f) ++ drop table_words m)
  accepted_is_stored = filled.into_accepted f m h

  -- After a refused file every word of the table is 0, whatever was there; words behind them stay.
  pub refused_is_cleared : (x : Fault) → (read_file f).answer ≡ Err x
      → read_into f m ≡ into (Err x) (replicate table_words 0 ++ drop table_words m)
  refused_is_cleared = filled.into_refused f m h

  -- For every file the table that is loaded from the memory is the one that reading returns by value.
  pub into_is_loaded : Bytes f → table_in (read_into f m).memory ≡ table_from f
  into_is_loaded = filled.into_loaded f m h
