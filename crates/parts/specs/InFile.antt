-- What is read at a cursor over any bytes: of bytes that are longer than a file nothing is read.
use Rattle.std.specs.Prelude.{List, ℕ, ltb, length}
use Rattle.std.specs.Prelude.{if◌then◌else◌}
use Rattle.der.specs.Element.{fault}
use Rattle.buffer.specs.Numbers.{file_bytes, too_long}
use Rattle.der.specs.declared.Fault.{Fault}
use Rattle.pkcs12.specs.declared.answers.Parsed.{Parsed}
use Rattle.pkcs12.specs.declared.row.Parts.{Parts}
use Rattle.std.specs.Prelude.{Err, Result}

-- Rule 5.9: more than 65,535 bytes are 9, at 0; else the parts
unfoldable pub in_file : List ℕ → Result (Parsed Parts) Fault → Result (Parsed Parts) Fault
in_file s x = if ltb file_bytes (length s) then Err (fault too_long 0) else x
