-- What a bag's id is, by the table's reading (Rule 7.4).
use Rattle.std.specs.Prelude.{false, ◌↔◌, ◌⊎◌, ◌≡◌, List, [], ◌∷◌, ℕ, get_or}
use Rattle.std.proofs.Math.Option.{Option, some}
use Rattle.std.proofs.Math.Option as option
use Rattle.std.specs.Prelude.{if◌then◌else◌}
use Rattle.der.specs.Numbers.{octet_string_tag}
use Rattle.der.specs.Octets.{tlv}
use Rattle.range.specs.Bytes.{same_bytes}
use Rattle.pkcs12.specs.Syntax.{Attribute, Safe, kind_of_leaf}
use Rattle.pkcs12.specs.Values.{Content, empty_bag, leaf, nested, BagValue, bags_of_safes}
use Rattle.range.specs.Range.{bytes_in}
use Rattle.pkcs12.specs.declared.kind.BagKind.{BagKind}
use Rattle.pkcs12.specs.declared.kind.BagKind.TheVariants.{Key, ShroudedKey, Certificate, Nested}
use Rattle.std.specs.Prelude.{None, Option as Maybe, Some}
use Rattle.range.specs.declared.Range.{Range}
use Rattle.attributes.specs.Own.{set_in_safes, listed}
use Rattle.pairing.specs.declared.IdentityRow.{IdentityRow}
use Rattle.identities.specs.Identities.{local_key_type}

-- the values of the first localKeyID attribute of a list
unfoldable pub first_key_id : List Attribute → Option (List ℕ)
first_key_id [] = option.none
first_key_id (a ∷ xs) = if same_bytes a.identifier local_key_type then some a.values else first_key_id xs

-- Rule 7.4: the attribute has exactly one element, an OCTET STRING, and x, its body, is the id of a
-- bag with these attributes
abbrev pub IsId : List Attribute → List ℕ → Type 0
IsId xs x = first_key_id xs ≡ some (tlv octet_string_tag x)

-- an id is there, of bytes x
abbrev pub Holds : List ℕ → Maybe Range → List ℕ → Type 0
Holds s None x = ⊥
Holds s (Some r) x = bytes_in s r ≡ x

-- it is that of these attributes, and there where they have one; else there is none (Rule 7.4)
abbrev pub Shows : List ℕ → Maybe Range → List Attribute → Type 0
Shows s i xs = (x : List ℕ) → Holds s i x ↔ IsId xs x

-- the id of an identity row
abbrev pub id_in_row : IdentityRow → Maybe Range
id_in_row r = if r.has_id then Some r.id else None

-- ---- keys and certificates by the reading

-- what is taken for a bag that isn't there
abbrev pub no_bag_value : BagValue
no_bag_value = record { safe = 0; enclosing = None; content = empty_bag; has_set = false }

abbrev pub kind_of_content : Content → BagKind
kind_of_content empty_bag = BagKind.None
kind_of_content (leaf x) = kind_of_leaf x
kind_of_content nested = Nested

-- the kind of bag n of a reading, counted as the bag rows are
abbrev pub kind_in : ℕ → List Safe → BagKind
kind_in n xs = kind_of_content (get_or (bags_of_safes 0 0 xs) n no_bag_value).content

-- Rule 7.5: bag k is a key's, of kind 01 or 02
abbrev pub KeyBag : List Safe → ℕ → Type 0
KeyBag xs k = (kind_in k xs ≡ Key) ⊎ (kind_in k xs ≡ ShroudedKey)

-- Rule 7.5: bag j is a certificate's, and its id is equal to that of bag k
pub record Certifies (xs : List Safe) (k j : ℕ) : Type 0 where
  pub certificate : kind_in j xs ≡ Certificate
  pub id : List ℕ
  pub of_key : IsId (listed (set_in_safes k xs)) id
  pub of_certificate : IsId (listed (set_in_safes j xs)) id
