-- When a table is sound for bytes, as the writer requires (Rules 6.1 to 6.7).
use Rattle.std.specs.Prelude.{◌≡◌, List, ℕ, ◌≤◌, length}
use Rattle.std.proofs.Math.Option.{some}
use Rattle.pkcs12.specs.Numbers.{safe_rows, bag_rows, attribute_rows}
use Rattle.pkcs12.specs.Syntax.{Pfx}
use Rattle.pkcs12.specs.Valid.{Valid}
use Rattle.pkcs12.specs.Table.{Rows, rows_in, reading_of}
use Rattle.range.specs.declared.Range.{Range}
use Rattle.pkcs12.specs.declared.row.Parts.{Parts}
use Rattle.pkcs12.specs.declared.kind.SafeKind.{SafeKind}
use Rattle.pkcs12.specs.declared.kind.SafeKind.TheVariants.{Plain, Encrypted}
use Rattle.pkcs12.specs.declared.kind.BagKind.{BagKind}
use Rattle.pkcs12.specs.declared.kind.BagKind.TheVariants.{Key, ShroudedKey, Certificate, Crl, Secret, Nested}
use Rattle.pkcs12.specs.declared.row.Mac.{Mac}
use Rattle.pkcs12.specs.declared.table.Table.{Table}
use Rattle.der.specs.Named.{Each}

-- Rule 6.5: the ranges lie in the bytes, those that a row's kind uses in the rows below the counts
pub record Lies (s : List ℕ) (r : Range) : Type 0 where
  pub order : r.start ≤ r.end
  pub inside : r.end ≤ length s

abbrev pub SealedLies : List ℕ → Parts → Type 0
SealedLies s p = Lies s p.identifier × Lies s p.parameters × Lies s p.value

abbrev pub TypedLies : List ℕ → Parts → Type 0
TypedLies s p = Lies s p.identifier × Lies s p.value

abbrev pub PartsLie : List ℕ → BagKind → Parts → Type 0
PartsLie s BagKind.None p = Unit {0}
PartsLie s Key p = Lies s p.value
PartsLie s ShroudedKey p = SealedLies s p
PartsLie s Certificate p = TypedLies s p
PartsLie s Crl p = TypedLies s p
PartsLie s Secret p = TypedLies s p
PartsLie s Nested p = Unit {0}

abbrev pub SafeLies : List ℕ → SafeKind → Parts → Type 0
SafeLies s SafeKind.None p = Unit {0}
SafeLies s Plain p = Unit {0}
SafeLies s Encrypted p = SealedLies s p

pub record RangesLie (s : List ℕ) (st : Rows) (m : Mac) : Type 0 where
  pub safes : Each (λ r. SafeLies s r.kind r.parts) st.safes
  pub bags : Each (λ r. PartsLie s r.kind r.parts) st.bags
  pub attributes : Each (λ r. Lies s r.identifier × Lies s r.values) st.attributes
  pub digest : SealedLies s m.parts
  pub salt : Lies s m.salt

-- Rules 6.2 to 6.6: counts within the sizes, rows in the order of a reading, attributes only of
-- bags with a set, ranges in the bytes, and every rule of a file but for its size and the length
-- forms of its headers. That is: the table shows a reading, and that is valid.
-- Rule 6.7: rows past the counts, the number of elements, the range of the MAC input and fields
-- that a row's kind doesn't use are ignored.
pub record Sound (t : Table) (s : List ℕ) : Type 0 where
  pub safe_count : t.safe_count ≤ safe_rows
  pub bag_count : t.bag_count ≤ bag_rows
  pub attribute_count : t.attribute_count ≤ attribute_rows
  pub ranges : RangesLie s (rows_in t) t.mac
  pub reading : Pfx
  pub shows : reading_of t s ≡ some reading
  pub valid : Valid reading
