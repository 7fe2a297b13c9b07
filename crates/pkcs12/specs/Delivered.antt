-- What writing a sound table comes to (Rules 6.9, 9.4).
use Rattle.std.specs.Prelude.{◌≡◌, List, ◌++◌, ℕ, length, drop}
use Rattle.std.proofs.Math.Option.{some}
use Rattle.der.specs.Span.{Bytes}
use Rattle.pkcs12.specs.Syntax.{Pfx}
use Rattle.pkcs12.specs.Table.{reading_of}
use Rattle.pkcs12.specs.Accepted.{IsAccepted, reading_from}
use Rattle.pkcs12.specs.Written.{write_file}
use Rattle.pkcs12.specs.declared.table.Table.{Table}
use Rattle.std.specs.Prelude.{Ok}

-- Writing the table t over the bytes s into the buffer delivers the file f, which has the reading
-- x. Rule 6.9: the file is at the front of the buffer, its length is returned, and every byte
-- behind it is as before. The file is accepted, has the table's reading, and is the only accepted
-- file that does.
pub record Delivered (t : Table) (s buffer f : List ℕ) (x : Pfx) : Type 0 where
  pub answer : (write_file t s buffer).answer ≡ Ok (length f)
  pub buffer_after : (write_file t s buffer).buffer ≡ f ++ drop (length f) buffer
  pub accepted : IsAccepted f
  pub shows : reading_from f ≡ some x
  pub same_reading : reading_from f ≡ reading_of t s
  pub only : (g : List ℕ) → Bytes g → IsAccepted g → reading_from g ≡ reading_of t s → g ≡ f
