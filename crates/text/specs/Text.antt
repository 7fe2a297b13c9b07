-- A name and a number, and the line of a refusal.
use Rattle.std.specs.Prelude.{List, ◌++◌, ℕ}
use Rattle.der.specs.declared.Fault.{Fault}
use Rattle.buffer.specs.Text.{ascii, decimal}

-- a number behind a name
unfoldable pub number_text : List ℕ → ℕ → List ℕ
number_text name n = name ++ decimal n

-- Rule 8.3: a refusal is listed as `refused N at P`
unfoldable pub refused_line : Fault → List ℕ
refused_line f = number_text (ascii "refused ") f.number ++ number_text (ascii " at ") f.offset ++ ascii "\n"
