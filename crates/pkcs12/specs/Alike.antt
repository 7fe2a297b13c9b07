-- When two tables differ only in what the writer ignores (Rule 6.7): rows past the counts, the
-- number of elements, the range of the MAC input, and fields that a row's kind doesn't use.
use Rattle.std.specs.Prelude.{◌≡◌, List, [], ◌∷◌}
use Rattle.pkcs12.specs.Table.{rows_in}
use Rattle.pkcs12.specs.declared.row.Parts.{Parts}
use Rattle.pkcs12.specs.declared.kind.SafeKind.{SafeKind}
use Rattle.pkcs12.specs.declared.kind.SafeKind.TheVariants.{Plain, Encrypted}
use Rattle.pkcs12.specs.declared.kind.BagKind.{BagKind}
use Rattle.pkcs12.specs.declared.kind.BagKind.TheVariants.{Key, ShroudedKey, Certificate, Crl, Secret, Nested}
use Rattle.pkcs12.specs.declared.row.SafeRow.{SafeRow}
use Rattle.pkcs12.specs.declared.row.BagRow.{BagRow}
use Rattle.pkcs12.specs.declared.table.Table.{Table}

-- the parts that a kind of safe uses are the same: all three of an encrypted one, none of another
abbrev pub SafePartsAlike : SafeKind → Parts → Parts → Type 0
SafePartsAlike SafeKind.None p q = Unit {0}
SafePartsAlike Plain p q = Unit {0}
SafePartsAlike Encrypted p q = p ≡ q

-- an identifier and a value, with no parameters
abbrev pub TypedAlike : Parts → Parts → Type 0
TypedAlike p q = (p.identifier ≡ q.identifier) × (p.value ≡ q.value)

-- the parts that a kind of bag uses are the same
abbrev pub BagPartsAlike : BagKind → Parts → Parts → Type 0
BagPartsAlike BagKind.None p q = Unit {0}
BagPartsAlike Key p q = p.value ≡ q.value
BagPartsAlike ShroudedKey p q = p ≡ q
BagPartsAlike Certificate p q = TypedAlike p q
BagPartsAlike Crl p q = TypedAlike p q
BagPartsAlike Secret p q = TypedAlike p q
BagPartsAlike Nested p q = Unit {0}

-- two rows that differ in fields that their kind doesn't use, if at all
pub record SafesAlike (r q : SafeRow) : Type 0 where
  pub kind : r.kind ≡ q.kind
  pub parts : SafePartsAlike r.kind r.parts q.parts

pub record BagsAlike (r q : BagRow) : Type 0 where
  pub kind : r.kind ≡ q.kind
  pub safe : r.safe ≡ q.safe
  pub enclosing : r.enclosing ≡ q.enclosing
  pub has_set : r.has_set ≡ q.has_set
  pub parts : BagPartsAlike r.kind r.parts q.parts

-- two lists are equally long, and P holds of each two rows at the same index
unfoldable pub Pairwise : {A : Type 0} → (A → A → Type 0) → List A → List A → Type 0
Pairwise P [] [] = Unit {0}
Pairwise P [] (y ∷ ys) = ⊥
Pairwise P (x ∷ xs) [] = ⊥
Pairwise P (x ∷ xs) (y ∷ ys) = P x y × Pairwise P xs ys

-- The counts, the rows below them and the MAC fields are the same, but for fields that a row's kind
-- doesn't use. Nothing is said of rows past the counts, the number of elements and the range of the
-- MAC input. An attribute row has no kind.
pub record Alike (t u : Table) : Type 0 where
  pub safe_count : t.safe_count ≡ u.safe_count
  pub bag_count : t.bag_count ≡ u.bag_count
  pub attribute_count : t.attribute_count ≡ u.attribute_count
  pub safes : Pairwise SafesAlike (rows_in t).safes (rows_in u).safes
  pub bags : Pairwise BagsAlike (rows_in t).bags (rows_in u).bags
  pub attributes : (rows_in t).attributes ≡ (rows_in u).attributes
  pub mac : t.mac ≡ u.mac
