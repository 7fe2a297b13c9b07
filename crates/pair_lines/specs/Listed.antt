-- What writing the pairs of a file into a buffer comes to: the answer and the buffer afterwards.
use Rattle.std.specs.Prelude.{List, ℕ}
use Rattle.buffer.specs.Written.{Outcome, into_buffer}
use Rattle.pkcs12.specs.declared.answers.Reading.{Reading}
use Rattle.pair_lines.specs.Lines.{pairs_text}

-- no text is longer: a line for each bag row
abbrev pub pairs_bytes : ℕ
pairs_bytes = 4_288

-- as for a listing: the text, or 10 and the buffer as before where the buffer is shorter
abbrev pub pairs_listed : List ℕ → Reading → List ℕ → Outcome
pairs_listed s reading buffer = into_buffer (pairs_text s reading) buffer
