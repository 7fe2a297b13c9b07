-- What a reading is written as (Rules 3.3 to 3.23; RFC 7292, section 4; X.690). For values of any
-- size.
use Rattle.std.specs.Prelude.{List, [], ◌∷◌, ◌++◌, ℕ, eqb}
use Rattle.std.specs.Prelude.{if◌then◌else◌}
use Rattle.der.specs.Numbers.{set_tag, context_tag}
use Rattle.der.specs.Octets.{tlv, integer, octet_string, identifier, sequence}
use Rattle.pkcs12.specs.Numbers.{ciphertext_tag, pfx_version, encrypted_version, default_iterations}
use Rattle.pkcs12.specs.Identifiers.{data_type, encrypted_type, identifier_of}
use Rattle.pkcs12.specs.Syntax.{Algorithm, Sealed, Leaf, key, shrouded, typed, Attribute, Set, absent, present}
use Rattle.pkcs12.specs.Syntax.{Bags, none, bag, nest, Safe, plain, encrypted, MacData, Pfx, kind_of_leaf}
use Rattle.pkcs12.specs.declared.kind.BagKind.{BagKind}
use Rattle.pkcs12.specs.declared.kind.BagKind.TheVariants.{Nested}

-- Rule 3.11: AlgorithmIdentifier, a SEQUENCE of an identifier and at most one opaque element
unfoldable pub algorithm_bytes : Algorithm → List ℕ
algorithm_bytes a = sequence (identifier a.identifier ++ a.parameters)

-- Rules 3.16, 3.21: a shrouded key, a DigestInfo, each a SEQUENCE of an AlgorithmIdentifier and an
-- OCTET STRING
unfoldable pub sealed_bytes : Sealed → List ℕ
sealed_bytes x = sequence (algorithm_bytes x.algorithm ++ octet_string x.octets)

-- Rule 3.4: ContentInfo, a SEQUENCE of an identifier and [0] with one element
unfoldable pub content_info : List ℕ → List ℕ → List ℕ
content_info type content = sequence (identifier type ++ tlv context_tag content)

-- Rules 3.5, 3.8: of type data, with an OCTET STRING whose body is a SEQUENCE with the body x
unfoldable pub data_bytes : List ℕ → List ℕ
data_bytes x = content_info data_type (octet_string (sequence x))

-- Rule 3.20: an attribute, a SEQUENCE of an identifier and a SET of zero or more opaque elements
unfoldable pub attribute_bytes : Attribute → List ℕ
attribute_bytes a = sequence (identifier a.identifier ++ tlv set_tag a.values)

unfoldable pub attributes_bytes : List Attribute → List ℕ
attributes_bytes [] = []
attributes_bytes (a ∷ xs) = attribute_bytes a ++ attributes_bytes xs

-- Rule 3.13: optionally a SET of attributes
unfoldable pub set_bytes : Set → List ℕ
set_bytes absent = []
set_bytes (present xs) = tlv set_tag (attributes_bytes xs)

-- what is in [0] of a bag, but for the nested kind
unfoldable pub leaf_bytes : Leaf → List ℕ
leaf_bytes (key v) = v
leaf_bytes (shrouded x) = sealed_bytes x
leaf_bytes (typed k t v) = sequence (identifier t ++ tlv context_tag v)

-- Rule 3.13: SafeBag, a SEQUENCE of a bagId, [0] with one element, and optionally a SET of
-- attributes
unfoldable pub bag_bytes : BagKind → List ℕ → Set → List ℕ
bag_bytes k content set = sequence (identifier (identifier_of k) ++ (tlv context_tag content ++ set_bytes set))

-- Rules 3.12, 3.18: the bags of a SafeContents; in [0] of a nested bag is a SafeContents
unfoldable pub bags_bytes : Bags → List ℕ
bags_bytes none = []
bags_bytes (bag x set xs) = bag_bytes (kind_of_leaf x) (leaf_bytes x) set ++ bags_bytes xs
bags_bytes (nest inner set xs) = bag_bytes Nested (sequence (bags_bytes inner)) set ++ bags_bytes xs

-- Rule 3.10: EncryptedContentInfo, a SEQUENCE of the identifier data, an AlgorithmIdentifier, and
-- tag 80 with the ciphertext
unfoldable pub encrypted_info : Sealed → List ℕ
encrypted_info x = sequence (identifier data_type ++ (algorithm_bytes x.algorithm ++ tlv ciphertext_tag x.octets))

-- Rule 3.8: of type data, an OCTET STRING whose body is one SafeContents. Rule 3.9: of type
-- encryptedData, a SEQUENCE of the version 0 and an EncryptedContentInfo
unfoldable pub safe_bytes : Safe → List ℕ
safe_bytes (plain xs) = data_bytes (bags_bytes xs)
safe_bytes (encrypted x) = content_info encrypted_type (sequence (integer encrypted_version ++ encrypted_info x))

unfoldable pub safes_bytes : List Safe → List ℕ
safes_bytes [] = []
safes_bytes (x ∷ xs) = safe_bytes x ++ safes_bytes xs

-- Rule 3.22: 1 is the default, and DER leaves a default out
unfoldable pub iterations_bytes : ℕ → List ℕ
iterations_bytes n = if eqb n default_iterations then [] else integer n

-- Rule 3.21: MacData, a SEQUENCE of a DigestInfo, the salt, and optionally the iterations
unfoldable pub mac_bytes : MacData → List ℕ
mac_bytes m = sequence (sealed_bytes m.digest ++ (octet_string m.salt ++ iterations_bytes m.iterations))

-- Rule 3.3: PFX, a SEQUENCE of the version 3, a ContentInfo and a MacData
unfoldable pub encode : Pfx → List ℕ
encode x = sequence (integer pfx_version ++ (data_bytes (safes_bytes x.safes) ++ mac_bytes x.mac))
