-- No listing is long: a bound for every part of a line, for every line and for the whole.
use mathlib.Core.Bool.{Bool, true, false}
use mathlib.Core.List.{List, []}
use Prim.Native.Nat.{ℕ, ◌+◌, ◌≤◌}
use native.Mathlib.Omega.{arith}
use lib.ListN.{length, get_or}
use Rattle.pkcs12.specs.Table.{no_safe, no_bag, no_attribute, safes_counted, bags_counted, attributes_counted}
use Rattle.der.specs.declared.Fault.{Fault}
use Rattle.std.specs.Prelude.{Err, None, Ok, Option, Result, Some, ⊤}
use Rattle.pkcs12.specs.declared.row.AttributeRow.{AttributeRow}
use Rattle.pkcs12.specs.declared.kind.BagKind.{BagKind}
use Rattle.pkcs12.specs.declared.kind.BagKind.TheVariants.{Key, ShroudedKey, Certificate, Crl, Secret, Nested}
use Rattle.pkcs12.specs.declared.row.BagRow.{BagRow}
use Rattle.pkcs12.specs.declared.row.Mac.{Mac}
use Rattle.pkcs12.specs.declared.row.Parts.{Parts}
use Rattle.range.specs.declared.Range.{Range}
use Rattle.pkcs12.specs.declared.answers.Reading.{Reading}
use Rattle.pkcs12.specs.declared.kind.SafeKind.{SafeKind}
use Rattle.pkcs12.specs.declared.kind.SafeKind.TheVariants.{Plain, Encrypted}
use Rattle.pkcs12.specs.declared.row.SafeRow.{SafeRow}
use Rattle.pkcs12.specs.declared.table.Table.{Table}
use Rattle.buffer.specs.Text.{ascii}
use Rattle.text.proofs.Short.{Short, word, within, ◌and◌, number, refused_line_lem, lines}
use Rattle.listing.specs.Lines.{range_text, sealed_text, typed_text, safe_text, safe_line, kind_text}
use Rattle.listing.specs.Lines.{enclosing_text, parts_text, set_text, bag_start, bag_line, attribute_line}
use Rattle.listing.specs.Lines.{own, safe_row_line, bag_row_line, attribute_row_line, file_line}
use Rattle.listing.specs.Lines.{counts_line}
use Rattle.listing.specs.Lines.{mac_line, head_lines, accepted_lines, answered, listing}
use Rattle.buffer.specs.Placed.{greatest}
use Rattle.listing.specs.Listed.{listing_bytes}

-- ---- parts of lines

range : (name : List ℕ) (r : Range) → Short (length name + 42) (range_text name r)
unfolding range_text ascii
range name r = within (length name + 42) (omega arith) (number name r.start and number (ascii "..") r.end)

sealed : (p : Parts) → Short 164 (sealed_text p)
unfolding sealed_text ascii
sealed p =
    within 164 (omega arith)
    (range (ascii ", algorithm ") p.identifier and range (ascii ", parameters ") p.parameters
    and range (ascii ", ciphertext ") p.value)

typed : (p : Parts) → Short 99 (typed_text p)
unfolding typed_text ascii
typed p = within 99 (omega arith) (range (ascii ", type ") p.identifier and range (ascii ", value ") p.value)

-- ---- lines

safe_text_lem : (k : SafeKind) (p : Parts) → Short 175 (safe_text k p)
unfolding safe_text ascii
safe_text_lem SafeKind.None p = within 175 (omega arith) (word (ascii ": none"))
safe_text_lem Plain p = within 175 (omega arith) (word (ascii ": plain"))
safe_text_lem Encrypted p = within 175 (omega arith) (word (ascii ": encrypted") and sealed p)

safe_line_lem : (i : ℕ) (r : SafeRow) → Short 201 (safe_line i r)
unfolding safe_line ascii
safe_line_lem i r = within 201 (omega arith) (number (ascii "safe ") i and safe_text_lem r.kind r.parts and word (ascii "\n"))

kind_text_lem : (k : BagKind) → Short 14 (kind_text k)
unfolding kind_text ascii
kind_text_lem BagKind.None = within 14 (omega arith) (word (ascii ": none"))
kind_text_lem Key = within 14 (omega arith) (word (ascii ": key"))
kind_text_lem ShroudedKey = within 14 (omega arith) (word (ascii ": shrouded key"))
kind_text_lem Certificate = within 14 (omega arith) (word (ascii ": certificate"))
kind_text_lem Crl = within 14 (omega arith) (word (ascii ": crl"))
kind_text_lem Secret = within 14 (omega arith) (word (ascii ": secret"))
kind_text_lem Nested = within 14 (omega arith) (word (ascii ": nested"))

enclosing_text_lem : (e : Option ℕ) → Short 29 (enclosing_text e)
unfolding enclosing_text ascii
enclosing_text_lem None = within 29 (omega arith) (word (ascii ", in none"))
enclosing_text_lem (Some n) = within 29 (omega arith) (number (ascii ", in bag ") n)

parts_text_lem : (k : BagKind) (p : Parts) → Short 164 (parts_text k p)
unfolding parts_text ascii
parts_text_lem BagKind.None p = within 164 (omega arith) (word [])
parts_text_lem Key p = within 164 (omega arith) (range (ascii ", key ") p.value)
parts_text_lem ShroudedKey p = sealed p
parts_text_lem Certificate p = within 164 (omega arith) (typed p)
parts_text_lem Crl p = within 164 (omega arith) (typed p)
parts_text_lem Secret p = within 164 (omega arith) (typed p)
parts_text_lem Nested p = within 164 (omega arith) (word [])

set_text_lem : (h : Bool) (own : ℕ) → Short 33 (set_text h own)
unfolding set_text ascii
set_text_lem true own = within 33 (omega arith) (number (ascii ", attributes ") own)
set_text_lem false own = within 33 (omega arith) (word (ascii ", no attributes"))

bag_start_lem : (i : ℕ) (r : BagRow) → Short 94 (bag_start i r)
unfolding bag_start ascii
bag_start_lem i r =
    within 94 (omega arith)
    (number (ascii "bag ") i and kind_text_lem r.kind and number (ascii ", safe ") r.safe and enclosing_text_lem r.enclosing)

bag_line_lem : (i : ℕ) (r : BagRow) (own : ℕ) → Short 292 (bag_line i r own)
unfolding bag_line ascii
bag_line_lem i r own =
    within 292 (omega arith)
    (bag_start_lem i r and parts_text_lem r.kind r.parts and set_text_lem r.has_set own and word (ascii "\n"))

attribute_line_lem : (i : ℕ) (r : AttributeRow) → Short 157 (attribute_line i r)
unfolding attribute_line ascii
attribute_line_lem i r =
    within 157 (omega arith)
    (number (ascii "attribute ") i and number (ascii ": bag ") r.bag and range (ascii ", type ") r.identifier
    and range (ascii ", values ") r.values and word (ascii "\n"))

file_line_lem : (size elements : ℕ) → Short 62 (file_line size elements)
unfolding file_line ascii
file_line_lem size elements = within 62 (omega arith) (number (ascii "pfx ") size and number (ascii " bytes, ") elements and word (ascii " elements\n"))

counts_line_lem : (i j k : ℕ) → Short 87 (counts_line i j k)
unfolding counts_line ascii
counts_line_lem i j k =
    within 87 (omega arith) (number (ascii "safes ") i and number (ascii ", bags ") j and number (ascii ", attributes ") k and word (ascii "\n"))

mac_line_lem : (input : Range) (m : Mac) → Short 186 (mac_line input m)
unfolding mac_line ascii
mac_line_lem input m =
    within 186 (omega arith)
    (range (ascii "mac input ") input and range (ascii ", digest ") m.parts.value
    and range (ascii ", salt ") m.salt and number (ascii ", iterations ") m.iterations and word (ascii "\n"))

-- ---- the whole

accepted : (size : ℕ) (t : Table) → Short listing_bytes (accepted_lines size t)
unfolding accepted_lines head_lines
accepted size t =
    within listing_bytes (omega arith)
    (file_line_lem size t.elements and counts_line_lem (safes_counted t) (bags_counted t) (attributes_counted t) and mac_line_lem t.mac_input t.mac
    and lines (safe_row_line t) 201 (λ i. safe_line_lem i (get_or t.safes i no_safe)) (safes_counted t)
    and lines (bag_row_line t) 292 (λ i. bag_line_lem i (get_or t.bags i no_bag) (own t i)) (bags_counted t)
    and lines (attribute_row_line t) 157 (λ i. attribute_line_lem i (get_or t.attributes i no_attribute)) (attributes_counted t))

answered_short : (a : Result ⊤ Fault) (size : ℕ) (t : Table) → Short listing_bytes (answered a size t)
unfolding answered
answered_short (Ok tt) size t = accepted size t
answered_short (Err f) size t = within listing_bytes (omega arith) (refused_line_lem f)

-- every listing is within the limit
pub short : (size : ℕ) (r : Reading) → length (listing size r) ≤ listing_bytes
unfolding listing
short size r = (answered_short r.answer size r.table).most

-- so it has no offset past the greatest
pub counted : (size : ℕ) (r : Reading) → length (listing size r) ≤ greatest
counted size r = omega (arith, short size r)
