-- The rules of a sound table as tests, all but the order of its rows. With `reading_of`, which
-- requires that order, they are proved to be `Sound` (see Sound.antt, and `file_iff_sound` among
-- the theorems).
use Rattle.std.specs.Prelude.{Bool, true, false, List, [], ◌∷◌, ℕ, leb, ltb, eqb, length, get_or}
use Rattle.std.specs.Prelude.{if◌then◌else◌}
use Rattle.der.specs.Choice.{both}
use Rattle.der.specs.Numbers.{octet_string_tag, integer_bound, opaque_levels, sequence_tag}
use Rattle.der.specs.Element.{whole_of}
use Rattle.der.specs.Content.{identifier_body}
use Rattle.der.specs.Opaque.{on_checked, opaque_at, elements_at}
use Rattle.pkcs12.specs.Numbers.{safe_rows, bag_rows, attribute_rows}
use Rattle.pkcs12.specs.Identifiers.{x509_certificate}
use Rattle.range.specs.Bytes.{same_bytes}
use Rattle.pkcs12.specs.Table.{Rows, rows_in}
use Rattle.range.specs.Range.{bytes_in, lies}
use Rattle.range.specs.declared.Range.{Range}
use Rattle.pkcs12.specs.declared.row.Parts.{Parts}
use Rattle.pkcs12.specs.declared.kind.SafeKind.{SafeKind}
use Rattle.pkcs12.specs.declared.kind.SafeKind.TheVariants.{Plain, Encrypted}
use Rattle.pkcs12.specs.declared.kind.BagKind.{BagKind}
use Rattle.pkcs12.specs.declared.kind.BagKind.TheVariants.{Key, ShroudedKey, Certificate, Crl, Secret, Nested}
use Rattle.pkcs12.specs.declared.row.SafeRow.{SafeRow}
use Rattle.pkcs12.specs.declared.row.BagRow.{BagRow}
use Rattle.pkcs12.specs.declared.row.AttributeRow.{AttributeRow}
use Rattle.pkcs12.specs.declared.row.Mac.{Mac}
use Rattle.pkcs12.specs.declared.table.Table.{Table}

-- a test of each of a list
unfoldable pub all : {A : Type 0} → (A → Bool) → List A → Bool
all test [] = true
all test (x ∷ xs) = both (test x) (all test xs)

-- Rule 6.2: the counts are within the sizes
unfoldable pub counts_fit : Table → Bool
counts_fit t = both (leb t.safe_count safe_rows) (both (leb t.bag_count bag_rows) (leb t.attribute_count attribute_rows))

-- an identifier's body
unfoldable pub names_type : List ℕ → Range → Bool
names_type s r = both (lies s r) (identifier_body (bytes_in s r))

-- one opaque element and nothing more; zero or more of them
unfoldable pub one_opaque : List ℕ → Bool
one_opaque x = on_checked (opaque_at opaque_levels x (whole_of x)) (λ f. false) (λ m n. leb n.end n.at)

unfoldable pub all_opaque : List ℕ → Bool
all_opaque x = on_checked (elements_at opaque_levels x (whole_of x)) (λ f. false) (λ m n. true)

unfoldable pub holds_opaque : List ℕ → Range → Bool
holds_opaque s r = both (lies s r) (one_opaque (bytes_in s r))

unfoldable pub holds_all : List ℕ → Range → Bool
holds_all s r = both (lies s r) (all_opaque (bytes_in s r))

-- Rule 3.11: at most one opaque element
unfoldable pub holds_at_most_one : List ℕ → Range → Bool
holds_at_most_one s r = both (lies s r) (if eqb (length (bytes_in s r)) 0 then true else one_opaque (bytes_in s r))

-- an opaque element with this tag
unfoldable pub has_tag : List ℕ → Range → ℕ → Bool
has_tag s r tag = eqb (get_or (bytes_in s r) 0 0) tag

unfoldable pub holds_tagged : List ℕ → Range → ℕ → Bool
holds_tagged s r tag = both (holds_opaque s r) (has_tag s r tag)

-- Rules 3.11, 3.16: an AlgorithmIdentifier's parts, and the bytes that the algorithm made
unfoldable pub is_sealed : List ℕ → Parts → Bool
is_sealed s p = both (names_type s p.identifier) (both (holds_at_most_one s p.parameters) (lies s p.value))

-- Rule 3.17: an identifier, and one opaque element
unfoldable pub is_typed : List ℕ → Parts → Bool
is_typed s p = both (names_type s p.identifier) (holds_opaque s p.value)

-- Rule 3.19: with x509Certificate that element is an OCTET STRING
unfoldable pub is_certificate : List ℕ → Parts → Bool
is_certificate s p = both (is_typed s p) (if same_bytes (bytes_in s p.identifier) x509_certificate then has_tag s p.value octet_string_tag else true)

-- what a row's kind requires of its parts; an empty row fails
unfoldable pub safe_holds : List ℕ → SafeKind → Parts → Bool
safe_holds s SafeKind.None p = false
safe_holds s Plain p = true
safe_holds s Encrypted p = is_sealed s p

unfoldable pub bag_holds : List ℕ → BagKind → Parts → Bool
bag_holds s BagKind.None p = false
bag_holds s Key p = holds_tagged s p.value sequence_tag
bag_holds s ShroudedKey p = is_sealed s p
bag_holds s Certificate p = is_certificate s p
bag_holds s Crl p = is_typed s p
bag_holds s Secret p = is_typed s p
bag_holds s Nested p = true

unfoldable pub safe_test : List ℕ → SafeRow → Bool
safe_test s r = safe_holds s r.kind r.parts

unfoldable pub bag_test : List ℕ → BagRow → Bool
bag_test s r = bag_holds s r.kind r.parts

-- Rule 3.20: an identifier, and zero or more opaque elements
unfoldable pub attribute_test : List ℕ → AttributeRow → Bool
attribute_test s r = both (names_type s r.identifier) (holds_all s r.values)

-- Rules 3.21, 3.22: algorithm, digest and salt; iterations from 1 to 2,147,483,647
unfoldable pub mac_test : List ℕ → Mac → Bool
mac_test s m = both (is_sealed s m.parts) (both (lies s m.salt) (both (leb 1 m.iterations) (ltb m.iterations integer_bound)))

unfoldable pub rows_test : List ℕ → Rows → Mac → Bool
rows_test s st m = both (all (safe_test s) st.safes) (both (all (bag_test s) st.bags) (both (all (attribute_test s) st.attributes) (mac_test s m)))

-- everything but the order of the rows
unfoldable pub keeps_rules : Table → List ℕ → Bool
keeps_rules t s = both (counts_fit t) (rows_test s (rows_in t) t.mac)
