-- The grammar of a file, said with the one rule for elements (section 3 of the rules), and the
-- account of a file.
use Rattle.std.specs.Prelude.{Bool, true, false, List, [], ℕ, zero, suc, leb, ltb, length}
use Rattle.std.specs.Prelude.{if◌then◌else◌}
use Rattle.range.specs.Bytes.{same_bytes}
use Rattle.refusals.specs.Element.{left, Made, Account, stops, Rule, closed, walked, judged, element, ◌before◌}
use Rattle.refusals.specs.Element.{each, if_any, served, if_tag, is, any, always, constructed, primitive}
use Rattle.refusals.specs.Element.{naming, anything, opaque}
use Rattle.refusals.specs.Bodies.{pkcs7, bag_id, x509, any_type, outer_type, safe_type, data_type, bag_type, version}
use Rattle.refusals.specs.Bodies.{encrypted_version, iterations}

-- ---- parts that make no row

-- Rule 3.11: AlgorithmIdentifier, a SEQUENCE of an identifier and at most one opaque element
unfoldable pub algorithm : Rule
algorithm = constructed 0x30 (primitive 0x06 any_type before if_any (opaque any 16))

-- Rules 3.16, 3.21: a SEQUENCE of an AlgorithmIdentifier and an OCTET STRING
unfoldable pub sealed : Rule
sealed = constructed 0x30 (algorithm before primitive 0x04 anything)

-- Rules 3.17, 3.19: a SEQUENCE of an identifier and [0] with one opaque element; of a certificate
-- with x509Certificate it is an OCTET STRING
abbrev pub value_tag : Bool → List ℕ → ℕ → Bool
value_tag is-certificate type = if is-certificate then (if same_bytes type x509 then is 0x04 else any) else any

unfoldable pub typed : Bool → Rule
typed is-certificate =
    constructed 0x30 (naming 0x06 any_type (λ type. constructed 0xA0 (opaque (value_tag is-certificate type) 16)))

-- Rule 3.10: EncryptedContentInfo, a SEQUENCE of the identifier data, an AlgorithmIdentifier, and
-- tag 80 with the ciphertext
unfoldable pub encrypted_info : Rule
encrypted_info = constructed 0x30 (primitive 0x06 data_type before algorithm before served (primitive 0x80 anything))

-- Rule 3.9: a SEQUENCE of the version 0 and an EncryptedContentInfo
unfoldable pub encrypted_data : Rule
encrypted_data = constructed 0x30 (primitive 0x02 encrypted_version before encrypted_info)

-- ---- parts that make rows (Rule 1.3); a row too many is 8 (Rule 5.8)

-- a SEQUENCE that makes a row, which is counted when it is met
abbrev pub row : (Made → Bool) → (Made → Made) → Rule → Rule
row full counted rule = element (is 0x30) full (λ t. walked (λ made l. rule (counted made) l))

abbrev pub more_safes : Made → Made
more_safes m = record { safes = suc m.safes; bags = m.bags; attributes = m.attributes }

abbrev pub more_bags : Made → Made
more_bags m = record { safes = m.safes; bags = suc m.bags; attributes = m.attributes }

abbrev pub more_attributes : Made → Made
more_attributes m = record { safes = m.safes; bags = m.bags; attributes = suc m.attributes }

-- Rule 3.20: an attribute, a SEQUENCE of an identifier and a SET of zero or more opaque elements
unfoldable pub attribute : Rule
attribute = row (λ m. leb 128 m.attributes) more_attributes
    (primitive 0x06 any_type before constructed 0x31 (each (opaque any 16)))

-- what a bag holds, by its identifier; `inner` is the rule of a SafeContents one level down
unfoldable pub bag_value : Rule → List ℕ → Rule
bag_value inner id =
    if same_bytes id (bag_id 0x01) then opaque (is 0x30) 16 else
    if same_bytes id (bag_id 0x02) then sealed else
    if same_bytes id (bag_id 0x03) then typed true else
    if same_bytes id (bag_id 0x04) then typed false else
    if same_bytes id (bag_id 0x05) then typed false else
    inner

-- Rule 3.13: SafeBag, a SEQUENCE of a bagId, [0] with one element, and optionally a SET of
-- attributes
unfoldable pub bag : Rule → Rule
bag inner =
    row (λ m. leb 64 m.bags) more_bags
    (naming 0x06 bag_type (λ id. constructed 0xA0 (bag_value inner id)) before if_tag 0x31
    (constructed 0x31 (each attribute)))

-- Rule 3.12: SafeContents, a SEQUENCE of zero or more SafeBag, with n levels left; level 9 is 8
-- (Rule 5.8)
unfoldable pub safe_contents : ℕ → Rule
safe_contents zero = element (is 0x30) always (λ t. judged anything)
safe_contents (suc n) = constructed 0x30 (each (bag (safe_contents n)))

-- Rules 3.5, 3.8: [0] with an OCTET STRING whose body is one of these
abbrev pub wrapped : Rule → Rule
wrapped rule = constructed 0xA0 (constructed 0x04 rule)

unfoldable pub safe_value : List ℕ → Rule
safe_value type = if same_bytes type (pkcs7 0x01) then wrapped (safe_contents 8) else constructed 0xA0 encrypted_data

-- Rule 3.7: AuthenticatedSafe, a SEQUENCE of zero or more ContentInfo, each with a safe row
unfoldable pub safe : Rule
safe = row (λ m. leb 16 m.safes) more_safes (naming 0x06 safe_type safe_value)

unfoldable pub outer : Rule
outer = constructed 0x30 (primitive 0x06 outer_type before wrapped (constructed 0x30 (each safe)))

-- ---- the file

-- Rule 3.21: MacData, a SEQUENCE of a DigestInfo, the salt, and optionally the iterations
unfoldable pub mac_data : Rule
mac_data = constructed 0x30 (sealed before primitive 0x04 anything before if_tag 0x02 (primitive 0x02 iterations))

-- Rule 3.3: PFX, a SEQUENCE of the version 3, a ContentInfo and a MacData
unfoldable pub pfx : Rule
pfx = constructed 0x30 (primitive 0x02 version before outer before served mac_data)

abbrev pub none_made : Made
none_made = record { safes = 0; bags = 0; attributes = 0 }

-- Rule 5.31: 9 is tested first, then the file is read front to back, each body entered when it is
-- met. Rule 4.7: one PFX, with no byte after it
unfoldable pub account_of : List ℕ → Account
account_of f =
    if ltb 65535 (length f) then stops 9 0 else
    closed (pfx none_made (left 0 f)) (left (length f) [])
