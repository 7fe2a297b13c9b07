-- What a call that writes into a caller's buffer leaves: its answer, and the buffer afterwards.
use Rattle.std.specs.Prelude.{List, ◌++◌, ℕ, ltb, length, drop}
use Rattle.std.specs.Prelude.{if◌then◌else◌}
use Rattle.der.specs.Element.{fault}
use Rattle.buffer.specs.Numbers.{short_buffer}
use Rattle.der.specs.declared.Fault.{Fault}
use Rattle.std.specs.Prelude.{Err, Ok, Result}

-- the length written, 0 where nothing is
abbrev pub length_of : Result ℕ Fault → ℕ
length_of (Ok n) = n
length_of (Err f) = 0

-- the answer, and the buffer afterwards
pub record Outcome : Type 0 where
  pub answer : Result ℕ Fault
  pub buffer : List ℕ

-- Rules 5.37, 6.10: a refusal has the offset 0, and the whole buffer is as before.
abbrev pub refusal : ℕ → List ℕ → Outcome
refusal number buffer = record { answer = Err (fault number 0); buffer = buffer }

-- Rule 6.9: the bytes are at the front of the buffer, their length is returned, and every byte
-- behind them is as before.
abbrev pub success : List ℕ → List ℕ → Outcome
success f buffer = record { answer = Ok (length f); buffer = f ++ drop (length f) buffer }

-- refused, and the buffer as before, exactly where the buffer is shorter than the text
unfoldable pub into_buffer : List ℕ → List ℕ → Outcome
into_buffer text buffer = if ltb (length buffer) (length text) then refusal short_buffer buffer else success text buffer
