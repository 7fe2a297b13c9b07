-- What is proved of the calls for C together: what one stores is what another takes, and what a
-- refusal leaves. The proofs are elsewhere. `Bytes f`: each number of the list is below 256.
-- `IsAccepted f`: `read_file f` accepts. `table_from f`: the table of the reading of f. `read_call`,
-- `write_call`: what `p12_read` and `p12_write` return and store. `Is11 words s`: the calls that
-- take a table from these words, over the bytes s, are 11, and leave what they would write to.
use mathlib.Core.Path.{◌≡◌}
use mathlib.Core.List.{List, ◌++◌}
use Prim.Native.Nat.{ℕ, ◌≤◌, ◌<◌}
use lib.ListN.{length, drop, replicate}
use Rattle.der.specs.Span.{Bytes}
use Rattle.der.specs.declared.Fault.{Fault}
use Rattle.buffer.specs.Numbers.{short_buffer}
use Rattle.pkcs12.specs.Accepted.{IsAccepted, table_from}
use Rattle.pkcs12.specs.Walk.{read_file}
use Rattle.std.specs.Prelude.{Err}
use Rattle.words.specs.Layout.{table_words}
use Rattle.words.specs.Stored.{words_of}
use Rattle.load.specs.Loaded.{table_in}
use Rattle.p12.specs.Calls.{ok, called, read_call, write_call, Is11}
use Rattle.p12.proofs.Memory as memory
use Rattle.p12.proofs.Unsound as unsound

-- ---- memory that is shorter than a table

-- `p12_read` into it is 10 with offset 0, whatever the file, and leaves it as it was.
pub short_is_10 : (f words : List ℕ) → length words < table_words → read_call f words ≡ called short_buffer words 0
short_is_10 = memory.short_is_10

-- A call that takes a table from it is 11, whatever the bytes, and leaves everything as it was.
pub short_is_11 : (words s : List ℕ) → length words < table_words → Is11 words s
short_is_11 = unsound.short_is_11

-- ---- reading into memory

module _ (f words : List ℕ) (h : table_words ≤ length words) where
  -- An accepted file is read into the words of its table, whatever was there; words behind them
  -- stay.
  pub read_stores : IsAccepted f → read_call f words ≡ called ok (words_of (table_from f) ++ drop table_words words) 0
  read_stores = memory.read_stores f words h

  -- After a refused file every word of the table is 0, whatever was there; words behind them stay.
  pub refused_is_cleared : (x : Fault) → (read_file f).answer ≡ Err x
      → read_call f words ≡ called x.number (replicate table_words 0 ++ drop table_words words) x.offset
  refused_is_cleared = memory.refused_is_cleared f words h

  module _ (b : Bytes f) where
    -- The table that a later call loads from the memory is the one that reading returned, for
    -- every file.
    pub read_is_loaded : table_in (read_call f words).memory ≡ table_from f
    read_is_loaded = memory.read_is_loaded f words h b

    -- So a file that is read and then written is the same file;
    pub read_then_write : IsAccepted f → (room : List ℕ) → length f ≤ length room
        → write_call (read_call f words).memory f room ≡ called ok (f ++ drop (length f) room) (length f)
    read_then_write = memory.read_then_write f words h b

    -- and after a refused file each call that takes the table is 11, over any bytes.
    pub refused_is_11 : (x : Fault) → (read_file f).answer ≡ Err x
        → (s : List ℕ) → Is11 (read_call f words).memory s
    refused_is_11 = memory.refused_is_11 f words h b
