-- What listing a reading into a caller's buffer comes to: the answer, and the buffer afterwards.
use Rattle.std.specs.Prelude.{List, ℕ}
use Rattle.buffer.specs.Written.{Outcome, into_buffer}
use Rattle.pkcs12.specs.declared.answers.Reading.{Reading}
use Rattle.listing.specs.Lines.{listing}

-- no listing is longer
abbrev pub listing_bytes : ℕ
listing_bytes = 65_536

-- the listing of a file of this size
abbrev pub listed : ℕ → Reading → List ℕ → Outcome
listed size reading buffer = into_buffer (listing size reading) buffer
