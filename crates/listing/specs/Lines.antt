-- The listing of a file: three lines and one for each row, or the line of a refusal. The lines in
-- quotes are those of Rules 8.2 and 8.3, and for rows those of docs/USING.md.
use Rattle.std.specs.Prelude.{Bool, true, false, List, [], ◌++◌, ℕ, zero, suc, ◌+◌, eqb, get_or}
use Rattle.std.specs.Prelude.{if◌then◌else◌}
use Rattle.pkcs12.specs.Table.{no_safe, no_bag, no_attribute, safes_counted, bags_counted, attributes_counted}
use Rattle.buffer.specs.Placed.{each}
use Rattle.der.specs.declared.Fault.{Fault}
use Rattle.std.specs.Prelude.{Err, None, Ok, Option, Result, Some, ⊤}
use Rattle.pkcs12.specs.declared.row.AttributeRow.{AttributeRow}
use Rattle.pkcs12.specs.declared.kind.BagKind.{BagKind}
use Rattle.pkcs12.specs.declared.kind.BagKind.TheVariants.{Key, ShroudedKey, Certificate, Crl, Secret, Nested}
use Rattle.pkcs12.specs.declared.row.BagRow.{BagRow}
use Rattle.pkcs12.specs.declared.row.Mac.{Mac}
use Rattle.pkcs12.specs.declared.row.Parts.{Parts}
use Rattle.range.specs.declared.Range.{Range}
use Rattle.pkcs12.specs.declared.answers.Reading.{Reading}
use Rattle.pkcs12.specs.declared.kind.SafeKind.{SafeKind}
use Rattle.pkcs12.specs.declared.kind.SafeKind.TheVariants.{Plain, Encrypted}
use Rattle.pkcs12.specs.declared.row.SafeRow.{SafeRow}
use Rattle.pkcs12.specs.declared.table.Table.{Table}
use Rattle.buffer.specs.Text.{ascii}
use Rattle.text.specs.Text.{number_text, refused_line}

-- ---- parts of lines

-- "A..B" behind a name
unfoldable pub range_text : List ℕ → Range → List ℕ
range_text name r = number_text name r.start ++ number_text (ascii "..") r.end

-- ", algorithm A..B, parameters A..B, ciphertext A..B"
unfoldable pub sealed_text : Parts → List ℕ
sealed_text p =
    range_text (ascii ", algorithm ") p.identifier
    ++ range_text (ascii ", parameters ") p.parameters
    ++ range_text (ascii ", ciphertext ") p.value

-- ", type A..B, value A..B"
unfoldable pub typed_text : Parts → List ℕ
typed_text p = range_text (ascii ", type ") p.identifier ++ range_text (ascii ", value ") p.value

-- ---- safes

-- an empty row has the kind `none`
unfoldable pub safe_text : SafeKind → Parts → List ℕ
safe_text SafeKind.None p = ascii ": none"
safe_text Plain p = ascii ": plain"
safe_text Encrypted p = ascii ": encrypted" ++ sealed_text p

-- "safe 0: plain", "safe 1: encrypted, algorithm A..B, parameters A..B, ciphertext A..B"
unfoldable pub safe_line : ℕ → SafeRow → List ℕ
safe_line i r = number_text (ascii "safe ") i ++ safe_text r.kind r.parts ++ ascii "\n"

-- ---- bags

unfoldable pub kind_text : BagKind → List ℕ
kind_text BagKind.None = ascii ": none"
kind_text Key = ascii ": key"
kind_text ShroudedKey = ascii ": shrouded key"
kind_text Certificate = ascii ": certificate"
kind_text Crl = ascii ": crl"
kind_text Secret = ascii ": secret"
kind_text Nested = ascii ": nested"

-- ", in none", ", in bag 2"
unfoldable pub enclosing_text : Option ℕ → List ℕ
enclosing_text None = ascii ", in none"
enclosing_text (Some n) = number_text (ascii ", in bag ") n

-- the ranges that a bag of a kind has: ", key A..B"; a CRL and a secret have those of a certificate
unfoldable pub parts_text : BagKind → Parts → List ℕ
parts_text BagKind.None p = []
parts_text Key p = range_text (ascii ", key ") p.value
parts_text ShroudedKey p = sealed_text p
parts_text Certificate p = typed_text p
parts_text Crl p = typed_text p
parts_text Secret p = typed_text p
parts_text Nested p = []

-- `attributes N` counts the attribute rows that name the bag; `no attributes`: it has no set
unfoldable pub set_text : Bool → ℕ → List ℕ
set_text true own = number_text (ascii ", attributes ") own
set_text false own = ascii ", no attributes"

-- "bag 3: certificate, safe 0, in bag 2"
unfoldable pub bag_start : ℕ → BagRow → List ℕ
bag_start i r = number_text (ascii "bag ") i ++ kind_text r.kind ++ number_text (ascii ", safe ") r.safe ++ enclosing_text r.enclosing

-- "bag 3: certificate, safe 0, in bag 2, type A..B, value A..B, attributes 2"
unfoldable pub bag_line : ℕ → BagRow → ℕ → List ℕ
bag_line i r own = bag_start i r ++ parts_text r.kind r.parts ++ set_text r.has_set own ++ ascii "\n"

-- ---- attributes

-- "attribute 0: bag 3, type A..B, values A..B"
unfoldable pub attribute_line : ℕ → AttributeRow → List ℕ
attribute_line i r =
    number_text (ascii "attribute ") i
    ++ number_text (ascii ": bag ") r.bag
    ++ range_text (ascii ", type ") r.identifier
    ++ range_text (ascii ", values ") r.values
    ++ ascii "\n"

-- ---- the rows of a table

-- of the first n attribute rows, those that name a bag
unfoldable pub own_among : Table → ℕ → ℕ → ℕ
own_among t bag zero = 0
own_among t bag (suc n) = own_among t bag n + (if eqb (get_or t.attributes n no_attribute).bag bag then 1 else 0)

abbrev pub own : Table → ℕ → ℕ
own t bag = own_among t bag (attributes_counted t)

abbrev pub safe_row_line : Table → ℕ → List ℕ
safe_row_line t i = safe_line i (get_or t.safes i no_safe)

abbrev pub bag_row_line : Table → ℕ → List ℕ
bag_row_line t i = bag_line i (get_or t.bags i no_bag) (own t i)

abbrev pub attribute_row_line : Table → ℕ → List ℕ
attribute_row_line t i = attribute_line i (get_or t.attributes i no_attribute)

-- ---- the whole

-- "pfx 47 bytes, 13 elements"
unfoldable pub file_line : ℕ → ℕ → List ℕ
file_line size elements = number_text (ascii "pfx ") size ++ number_text (ascii " bytes, ") elements ++ ascii " elements\n"

-- "safes 0, bags 0, attributes 0"
unfoldable pub counts_line : ℕ → ℕ → ℕ → List ℕ
counts_line i j k = number_text (ascii "safes ") i ++ number_text (ascii ", bags ") j ++ number_text (ascii ", attributes ") k ++ ascii "\n"

-- "mac input 22..24, digest 43..44, salt 46..47, iterations 1"
unfoldable pub mac_line : Range → Mac → List ℕ
mac_line input m =
    range_text (ascii "mac input ") input
    ++ range_text (ascii ", digest ") m.parts.value
    ++ range_text (ascii ", salt ") m.salt
    ++ number_text (ascii ", iterations ") m.iterations
    ++ ascii "\n"

unfoldable pub head_lines : ℕ → Table → List ℕ
head_lines size t = file_line size t.elements ++ counts_line (safes_counted t) (bags_counted t) (attributes_counted t) ++ mac_line t.mac_input t.mac

-- an accepted file has three lines, and then one for each row
unfoldable pub accepted_lines : ℕ → Table → List ℕ
accepted_lines size t = head_lines size t ++ each (safe_row_line t) (safes_counted t) ++ each (bag_row_line t) (bags_counted t) ++ each (attribute_row_line t) (attributes_counted t)

unfoldable pub answered : Result ⊤ Fault → ℕ → Table → List ℕ
answered (Ok tt) size t = accepted_lines size t
answered (Err f) size t = refused_line f

-- the listing of a file of this size
unfoldable pub listing : ℕ → Reading → List ℕ
listing size r = answered r.answer size r.table
