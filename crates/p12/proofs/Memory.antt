-- What `p12_read` leaves in the memory, and what the calls that take a table from it return.
use mathlib.Core.Path.{◌≡◌, refl, sym, ap, ◌∙◌}
use mathlib.Core.List.{List, ◌++◌}
use Prim.Native.Nat.{ℕ, ◌≤◌, ◌<◌}
use native.Mathlib.Omega.{arith}
use lib.ListN.{length, drop, replicate, length-append}
use Rattle.der.specs.Span.{Bytes}
use Rattle.der.specs.declared.Fault.{Fault}
use Rattle.der.proofs.Choices.{at_not_lt}
use Rattle.buffer.specs.Numbers.{short_buffer}
use Rattle.pkcs12.specs.Accepted.{IsAccepted, table_from}
use Rattle.pkcs12.specs.Report.{answer_report}
use Rattle.buffer.specs.Report.{written_report}
use Rattle.pkcs12.specs.Walk.{read_file}
use Rattle.pkcs12.specs.Written.{write_file}
use Rattle.std.specs.Prelude.{Err}
use Rattle.pkcs12.specs.declared.table.Table.{Table}
use Rattle.pkcs12.proofs.Theorems.{refused_table_empty, read_is_written}
use Rattle.words.specs.Layout.{table_words}
use Rattle.words.specs.Stored.{words_of}
use Rattle.load.specs.Loaded.{table_in}
use Rattle.load.proofs.Theorems.{words_count}
use Rattle.reader.specs.Memory.{Into}
use Rattle.reader.proofs.Filled.{into_whole}
use Rattle.reader.proofs.Theorems as reader
use Rattle.p12.specs.Calls.{ok, read_number, read_offset, Called, called, wrote, read_call, write_call, Is11}
use Rattle.p12.proofs.Unsound.{empty_is_11}

-- what `p12_read` makes of an answer and the memory
abbrev as_call : Into → Called
as_call x = called (read_number x.answer) x.memory (read_offset x.answer)

pub short_is_10 : (f words : List ℕ) → length words < table_words → read_call f words ≡ called short_buffer words 0
unfolding read_call answer_report
short_is_10 f words h = ap as_call (reader.short_is_10 f words h)

module _ (f words : List ℕ) (h : table_words ≤ length words) where
  pub read_stores : IsAccepted f → read_call f words ≡ called ok (words_of (table_from f) ++ drop table_words words) 0
  unfolding read_call answer_report
  read_stores a = ap as_call (reader.accepted_is_stored f words h a)

  pub refused_is_cleared : (x : Fault) → (read_file f).answer ≡ Err x
      → read_call f words ≡ called x.number (replicate table_words 0 ++ drop table_words words) x.offset
  unfolding read_call answer_report
  refused_is_cleared x e = ap as_call (reader.refused_is_cleared f words h x e)

  still_long : table_words ≤ length (read_call f words).memory
  unfolding read_call
  still_long =
      let a = length-append (words_of (table_from f)) (drop table_words words) in
      rw (into_whole f words h) (omega (arith, a, words_count (table_from f)))

  module _ (b : Bytes f) where
    pub read_is_loaded : table_in (read_call f words).memory ≡ table_from f
    unfolding read_call
    read_is_loaded = reader.into_is_loaded f words h b

    pub refused_is_11 : (x : Fault) → (read_file f).answer ≡ Err x
        → (s : List ℕ) → Is11 (read_call f words).memory s
    refused_is_11 x e s = empty_is_11 _ s still_long (read_is_loaded ∙ refused_table_empty f x e)

    pub read_then_write : IsAccepted f → (room : List ℕ) → length f ≤ length room
        → write_call (read_call f words).memory f room ≡ called ok (f ++ drop (length f) room) (length f)
    unfolding write_call written_report
    read_then_write a room k =
        sym (at_not_lt _ _ _ _ _ still_long refl)
        ∙ ap (λ (t : Table). wrote (write_file t f room)) read_is_loaded
        ∙ ap wrote (read_is_written f room b a k)
