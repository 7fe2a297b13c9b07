-- What writing does in each of its four cases; and that a sound table is written, as the one file
-- with its reading.
use mathlib.Core.Path.{◌≡◌, ap, ◌∙◌}
use mathlib.Core.List.{List}
use mathlib.Core.Option.{some}
use mathlib.Core.Option as option
use Prim.Native.Nat.{ℕ, ◌≤◌, ◌<◌}
use lib.ListN.{length}
use borrow.Author.Tests.{lt-ltb, le-ltb}
use Rattle.der.specs.Span.{Bytes}
use Rattle.buffer.specs.Numbers.{file_bytes, too_long, short_buffer, not_sound}
use Rattle.pkcs12.specs.Encode.{encode}
use Rattle.pkcs12.specs.Accepted.{IsAccepted, table_from}
use Rattle.pkcs12.specs.Sound.{Sound}
use Rattle.pkcs12.specs.Written.{file_of, write_file}
use Rattle.buffer.specs.Written.{Outcome, refusal, success}
use Rattle.pkcs12.specs.Delivered.{Delivered}
use Rattle.pkcs12.specs.declared.table.Table.{Table}
use Rattle.pkcs12.proofs.Checked.{sound_file}
use Rattle.pkcs12.proofs.Corollaries.{accepted_follows}
use Rattle.pkcs12.proofs.Writing.{written_is_read, only_file, read_then_written}

-- Rule 6.8, the order 11, 9, 10: the four cases
module _ (t : Table) (s buffer : List ℕ) where
  pub writes_none : file_of t s ≡ option.none → write_file t s buffer ≡ refusal not_sound buffer
  unfolding write_file
  writes_none h = rw h

  module _ (f : List ℕ) (h : file_of t s ≡ some f) where
    pub writes_long : file_bytes < length f → write_file t s buffer ≡ refusal too_long buffer
    unfolding write_file
    writes_long a = rw (h, lt-ltb file_bytes (length f) a)

    pub writes_short : length f ≤ file_bytes → length buffer < length f → write_file t s buffer ≡ refusal short_buffer buffer
    unfolding write_file
    writes_short a b = rw (h, le-ltb file_bytes (length f) a, lt-ltb (length buffer) (length f) b)

    pub writes_file : length f ≤ file_bytes → length f ≤ length buffer → write_file t s buffer ≡ success f buffer
    unfolding write_file
    writes_file a b = rw (h, le-ltb file_bytes (length f) a, le-ltb (length buffer) (length f) b)

  -- a sound table is written
  pub sound_is_written : Bytes s → (o : Sound t s)
      → length (encode o.reading) ≤ file_bytes → length (encode o.reading) ≤ length buffer
      → Delivered t s buffer (encode o.reading) o.reading
  sound_is_written bytes o a b =
      let f : List ℕ = encode o.reading in
      let w : write_file t s buffer ≡ success f buffer = writes_file f (sound_file t s bytes o) a b in
      let r = written_is_read t s bytes o a in
      record {
        answer = ap (λ (u : Outcome). u.answer) w;
        buffer_after = ap (λ (u : Outcome). u.buffer) w;
        accepted = r.0;
        shows = r.1 ∙ o.shows;
        same_reading = r.1;
        only = only_file t s o;
      }

-- a file that is read and written again is as it was
pub rewritten : (f buffer : List ℕ) → Bytes f → IsAccepted f → length f ≤ length buffer
    → write_file (table_from f) f buffer ≡ success f buffer
rewritten f buffer b a h =
    writes_file (table_from f) f buffer f (read_then_written f b a) (accepted_follows f b a).1.size h
