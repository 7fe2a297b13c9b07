-- The table: its rows as lists, padded with empty rows; what it shows of bytes.
use Rattle.std.specs.Prelude.{Bool, false, List, [], ◌++◌, map, ℕ, ◌-◌, min, length, take, replicate}
use Rattle.std.proofs.Math.Option.{Option}
use Rattle.pkcs12.specs.Numbers.{safe_rows, bag_rows, attribute_rows}
use Rattle.pkcs12.specs.Syntax.{Algorithm, Sealed, Typed, certificate, crl, secret, Leaf, key, shrouded, typed}
use Rattle.pkcs12.specs.Syntax.{MacData, Pfx}
use Rattle.pkcs12.specs.Values.{SafeValue, empty_safe, plain_safe, encrypted_safe, Content, empty_bag, leaf}
use Rattle.pkcs12.specs.Values.{nested, BagValue, AttributeValue, Values, tree_of}
use Rattle.range.specs.declared.Range.{Range}
use Rattle.der.specs.declared.Cursor.{Cursor}
use Rattle.pkcs12.specs.declared.answers.Parsed.{Parsed}
use Rattle.pkcs12.specs.declared.row.Parts.{Parts}
use Rattle.pkcs12.specs.declared.kind.SafeKind.{SafeKind}
use Rattle.pkcs12.specs.declared.kind.SafeKind.TheVariants.{Plain, Encrypted}
use Rattle.pkcs12.specs.declared.kind.BagKind.{BagKind}
use Rattle.pkcs12.specs.declared.kind.BagKind.TheVariants.{Key, ShroudedKey, Certificate, Crl, Secret, Nested}
use Rattle.std.specs.Prelude.{None, Option as Maybe}
use Rattle.pkcs12.specs.declared.row.SafeRow.{SafeRow}
use Rattle.pkcs12.specs.declared.row.BagRow.{BagRow}
use Rattle.pkcs12.specs.declared.row.AttributeRow.{AttributeRow}
use Rattle.pkcs12.specs.declared.row.Mac.{Mac}
use Rattle.pkcs12.specs.declared.table.Table.{Table}
use Rattle.range.specs.Range.{no_range, bytes_in}

abbrev pub parts : Range → Range → Range → Parts
parts i p v = record { identifier = i; parameters = p; value = v }

abbrev pub no_parts : Parts
no_parts = parts no_range no_range no_range

-- a part of a file: what its elements hold, the number of elements, and the cursor past them
abbrev pub parsed : {T : Type 0} → T → ℕ → Cursor → Parsed T
parsed x k n = record { value = x; count = k; next = n }

abbrev pub safe_row : SafeKind → Parts → SafeRow
safe_row k p = record { kind = k; parts = p }

abbrev pub no_safe : SafeRow
no_safe = safe_row SafeKind.None no_parts

abbrev pub bag_row : BagKind → ℕ → Maybe ℕ → Parts → Bool → BagRow
bag_row k s e p h = record { kind = k; safe = s; enclosing = e; parts = p; has_set = h }

abbrev pub no_bag : BagRow
no_bag = bag_row BagKind.None 0 None no_parts false

abbrev pub attribute_row : ℕ → Range → Range → AttributeRow
attribute_row n i v = record { bag = n; identifier = i; values = v }

abbrev pub no_attribute : AttributeRow
no_attribute = attribute_row 0 no_range no_range

abbrev pub mac_fields : Parts → Range → ℕ → Mac
mac_fields p s n = record { parts = p; salt = s; iterations = n }

abbrev pub no_mac : Mac
no_mac = mac_fields no_parts no_range 0

-- The rows as lists that grow, with the MAC input and the number of elements so far.
pub record Rows : Type 0 where
  pub safes : List SafeRow
  pub bags : List BagRow
  pub attributes : List AttributeRow
  pub input : Range
  pub count : ℕ

abbrev pub no_rows : Rows
no_rows = record { safes = []; bags = []; attributes = []; input = no_range; count = 0 }

-- a list as the front of an array of n rows
abbrev pub padded : {A : Type 0} → ℕ → A → List A → List A
padded n none xs = xs ++ replicate (n - length xs) none

abbrev pub table : List SafeRow → ℕ → List BagRow → ℕ → List AttributeRow → ℕ → Mac → Range → ℕ → Table
table safes i bags j attributes k m input count =
    record {
      safes = safes;
      safe_count = i;
      bags = bags;
      bag_count = j;
      attributes = attributes;
      attribute_count = k;
      mac = m;
      mac_input = input;
      elements = count;
    }

-- Rule 5.40: rows past the counts are 0 or none
unfoldable pub table_of : Rows → Mac → Table
table_of st m =
    table
    (padded safe_rows no_safe st.safes)
    (length st.safes)
    (padded bag_rows no_bag st.bags)
    (length st.bags)
    (padded attribute_rows no_attribute st.attributes)
    (length st.attributes)
    m
    st.input
    st.count

-- Rule 5.39: in the empty table every count, number and range end is 0
unfoldable pub empty_table : Table
empty_table = table_of no_rows no_mac

-- the rows below the counts
unfoldable pub rows_in : Table → Rows
rows_in t =
    record {
      safes = take t.safe_count t.safes;
      bags = take t.bag_count t.bags;
      attributes = take t.attribute_count t.attributes;
      input = t.mac_input;
      count = t.elements;
    }

-- ---- what rows show of bytes s; fields that a row's kind doesn't use are ignored (Rule 6.7)

abbrev pub algorithm_in : List ℕ → Parts → Algorithm
algorithm_in s p = record { identifier = bytes_in s p.identifier; parameters = bytes_in s p.parameters }

abbrev pub sealed_in : List ℕ → Parts → Sealed
sealed_in s p = record { algorithm = algorithm_in s p; octets = bytes_in s p.value }

abbrev pub typed_in : List ℕ → Typed → Parts → Leaf
typed_in s k p = typed k (bytes_in s p.identifier) (bytes_in s p.value)

abbrev pub content_in : List ℕ → BagKind → Parts → Content
content_in s BagKind.None p = empty_bag
content_in s Key p = leaf (key (bytes_in s p.value))
content_in s ShroudedKey p = leaf (shrouded (sealed_in s p))
content_in s Certificate p = leaf (typed_in s certificate p)
content_in s Crl p = leaf (typed_in s crl p)
content_in s Secret p = leaf (typed_in s secret p)
content_in s Nested p = nested

abbrev pub safe_in : List ℕ → SafeKind → Parts → SafeValue
safe_in s SafeKind.None p = empty_safe
safe_in s Plain p = plain_safe
safe_in s Encrypted p = encrypted_safe (sealed_in s p)

abbrev pub safe_shown : List ℕ → SafeRow → SafeValue
safe_shown s r = safe_in s r.kind r.parts

abbrev pub bag_shown : List ℕ → BagRow → BagValue
bag_shown s r = record { safe = r.safe; enclosing = r.enclosing; content = content_in s r.kind r.parts; has_set = r.has_set }

abbrev pub attribute_shown : List ℕ → AttributeRow → AttributeValue
attribute_shown s r = record { bag = r.bag; attribute = record { identifier = bytes_in s r.identifier; values = bytes_in s r.values } }

abbrev pub mac_shown : List ℕ → Mac → MacData
mac_shown s m = record { digest = sealed_in s m.parts; salt = bytes_in s m.salt; iterations = m.iterations }

unfoldable pub shown : List ℕ → Rows → Mac → Values
shown s st m =
    record {
      safes = map (safe_shown s) st.safes;
      bags = map (bag_shown s) st.bags;
      attributes = map (attribute_shown s) st.attributes;
      mac = mac_shown s m;
    }

-- the rows that a table counts; a count past its array counts as the array's rows
abbrev pub safes_counted : Table → ℕ
safes_counted t = min t.safe_count safe_rows

abbrev pub bags_counted : Table → ℕ
bags_counted t = min t.bag_count bag_rows

abbrev pub attributes_counted : Table → ℕ
attributes_counted t = min t.attribute_count attribute_rows

unfoldable pub values_of : Table → List ℕ → Values
values_of t s = shown s (rows_in t) t.mac

-- the reading that a table shows of bytes
unfoldable pub reading_of : Table → List ℕ → Option Pfx
reading_of t s = tree_of (values_of t s)
