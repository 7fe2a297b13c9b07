-- What measuring a table returns.
use Rattle.std.specs.Prelude.{List, ℕ, length}
use Rattle.pkcs12.specs.Written.{file_of, on_file}
use Rattle.pkcs12.specs.declared.table.Table.{Table}
use Rattle.encode.specs.Sizes.{capped}
use Rattle.std.specs.Prelude.{None, Option, Some}

-- the size of the file that a table makes of bytes
unfoldable pub measured : Table → List ℕ → Option ℕ
measured t s = on_file (file_of t s) None (λ f. Some (capped (length f)))
