-- The rules that a reading keeps, beside its form (sections 1 to 3 of the rules).
use Rattle.std.specs.Prelude.{◌≡◌, List, [], ◌∷◌, ℕ, zero, suc, ◌+◌, ◌≤◌, ◌<◌, length, get_or}
use Rattle.der.specs.Numbers.{octet_string_tag, integer_bound, opaque_levels, sequence_tag}
use Rattle.der.specs.Octets.{IdentifierRule}
use Rattle.der.specs.Tree as tree
use Rattle.pkcs12.specs.Numbers.{safe_rows, bag_rows, attribute_rows, levels}
use Rattle.pkcs12.specs.Identifiers.{x509_certificate}
use Rattle.pkcs12.specs.Syntax.{Algorithm, Sealed, Typed, certificate, crl, secret, Leaf, key, shrouded, typed}
use Rattle.pkcs12.specs.Syntax.{Attribute, Set, absent, present, Bags, none, bag, nest, Safe, plain, encrypted}
use Rattle.pkcs12.specs.Syntax.{MacData, Pfx}

-- Rules 2.6, 2.7: an opaque element, in all its levels, of which there are at most 16
pub record Opaque (x : List ℕ) : Type 0 where
  pub as_tree : tree.Tree
  pub formed : tree.Formed as_tree
  pub depth : tree.depth as_tree ≤ opaque_levels
  pub whole : tree.encode as_tree ≡ x

-- zero or more of them
pub record Opaques (x : List ℕ) : Type 0 where
  pub as_trees : tree.Trees
  pub formed : tree.AllFormed as_trees
  pub depth : tree.deepest as_trees ≤ opaque_levels
  pub whole : tree.encodes as_trees ≡ x

-- Rule 3.11: at most one opaque element
abbrev pub AtMostOne : List ℕ → Type 0
AtMostOne [] = Unit {0}
AtMostOne (b ∷ bs) = Opaque (b ∷ bs)

-- Rule 3.15: an opaque element with this tag
pub record OpaqueWith (tag : ℕ) (x : List ℕ) : Type 0 where
  pub opaque : Opaque x
  pub due : get_or x 0 0 ≡ tag

-- Rule 3.11: an identifier, and at most one opaque element
pub record ValidAlgorithm (a : Algorithm) : Type 0 where
  pub identifier : IdentifierRule a.identifier
  pub parameters : AtMostOne a.parameters

-- Rules 3.10, 3.16, 3.21: an AlgorithmIdentifier, and any octets: a ciphertext or a digest
abbrev pub ValidSealed : Sealed → Type 0
ValidSealed x = ValidAlgorithm x.algorithm

-- Rule 3.19: the value of a certificate with x509Certificate is an OCTET STRING
abbrev pub ValueRule : Typed → List ℕ → List ℕ → Type 0
ValueRule certificate type x = type ≡ x509_certificate → get_or x 0 0 ≡ octet_string_tag
ValueRule crl type x = Unit {0}
ValueRule secret type x = Unit {0}

-- Rules 3.15, 3.16, 3.17: an opaque SEQUENCE; a shrouded key; an identifier and one opaque element
abbrev pub ValidLeaf : Leaf → Type 0
ValidLeaf (key v) = OpaqueWith sequence_tag v
ValidLeaf (shrouded x) = ValidSealed x
ValidLeaf (typed k t v) = IdentifierRule t × Opaque v × ValueRule k t v

-- Rule 3.20: an identifier, and zero or more opaque elements
pub record ValidAttribute (a : Attribute) : Type 0 where
  pub identifier : IdentifierRule a.identifier
  pub values : Opaques a.values

unfoldable pub ValidAttributes : List Attribute → Type 0
ValidAttributes [] = Unit {0}
ValidAttributes (a ∷ xs) = ValidAttribute a × ValidAttributes xs

-- Rule 3.13: optionally a SET of attributes
abbrev pub ValidSet : Set → Type 0
ValidSet absent = Unit {0}
ValidSet (present xs) = ValidAttributes xs

-- Rule 3.18: to level 8 and no deeper; bags below which there may be l more levels
unfoldable pub ValidBags : ℕ → Bags → Type 0
ValidBags l none = Unit {0}
ValidBags l (bag x set xs) = ValidLeaf x × ValidSet set × ValidBags l xs
ValidBags zero (nest inner set xs) = ⊥
ValidBags (suc l) (nest inner set xs) = ValidBags l inner × ValidSet set × ValidBags (suc l) xs

-- Rule 1.4: the bags of safe contents with l levels left, their own among them
abbrev pub ValidContents : ℕ → Bags → Type 0
ValidContents zero xs = ⊥
ValidContents (suc l) xs = ValidBags l xs

-- Rule 1.4: the safe contents of a plain safe are level 1
abbrev pub ValidSafe : Safe → Type 0
ValidSafe (plain xs) = ValidContents levels xs
ValidSafe (encrypted x) = ValidSealed x

unfoldable pub ValidSafes : List Safe → Type 0
ValidSafes [] = Unit {0}
ValidSafes (x ∷ xs) = ValidSafe x × ValidSafes xs

-- Rule 3.22: iterations are 1 where they are absent, else 2 to 2,147,483,647
pub record ValidMac (m : MacData) : Type 0 where
  pub digest : ValidSealed m.digest
  pub some : 1 ≤ m.iterations
  pub bound : m.iterations < integer_bound

-- how many bags there are, at any level, and how many attributes
unfoldable pub bags_in : Bags → ℕ
bags_in none = 0
bags_in (bag x set xs) = 1 + bags_in xs
bags_in (nest inner set xs) = 1 + (bags_in inner + bags_in xs)

abbrev pub attributes_of : Set → ℕ
attributes_of absent = 0
attributes_of (present xs) = length xs

unfoldable pub attributes_in : Bags → ℕ
attributes_in none = 0
attributes_in (bag x set xs) = attributes_of set + attributes_in xs
attributes_in (nest inner set xs) = attributes_in inner + (attributes_of set + attributes_in xs)

abbrev pub bags_in_safe : Safe → ℕ
bags_in_safe (plain xs) = bags_in xs
bags_in_safe (encrypted x) = 0

abbrev pub attributes_in_safe : Safe → ℕ
attributes_in_safe (plain xs) = attributes_in xs
attributes_in_safe (encrypted x) = 0

unfoldable pub bags_in_safes : List Safe → ℕ
bags_in_safes [] = 0
bags_in_safes (x ∷ xs) = bags_in_safe x + bags_in_safes xs

unfoldable pub attributes_in_safes : List Safe → ℕ
attributes_in_safes [] = 0
attributes_in_safes (x ∷ xs) = attributes_in_safe x + attributes_in_safes xs

-- every rule, and no more rows than a table has (Rule 1.3)
pub record Valid (x : Pfx) : Type 0 where
  pub safes : ValidSafes x.safes
  pub mac : ValidMac x.mac
  pub safe_count : length x.safes ≤ safe_rows
  pub bag_count : bags_in_safes x.safes ≤ bag_rows
  pub attribute_count : attributes_in_safes x.safes ≤ attribute_rows
