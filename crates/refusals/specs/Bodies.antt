-- Which bodies are allowed where, each by a number: 0, or that of the refusal (sections 2 and 3 of
-- the rules, 5.5 and 5.7).
use Rattle.std.specs.Prelude.{Bool, true, false, List, [], ◌∷◌, ℕ, leb, ltb, eqb, length}
use Rattle.std.specs.Prelude.{if◌then◌else◌}
use Rattle.der.specs.Octets.{number}
use Rattle.range.specs.Bytes.{same_bytes}

-- Rule 2.8: an identifier's body isn't empty, and its last byte is below 80 (hex)
unfoldable pub ends_low : List ℕ → Bool
ends_low [] = false
ends_low (b ∷ []) = ltb b 0x80
ends_low (b ∷ c ∷ x) = ends_low (c ∷ x)

-- Rule 2.8: no part begins with the byte 80 (hex); a part begins after a byte below 80
unfoldable pub parts_begin : ℕ → List ℕ → Bool
parts_begin last [] = true
parts_begin last (b ∷ x) = if ltb last 0x80 then (if eqb b 0x80 then false else parts_begin b x) else parts_begin b x

unfoldable pub is_identifier : List ℕ → Bool
is_identifier x = if ends_low x then parts_begin 0 x else false

-- Rule 2.9: the body of an INTEGER has 1 to 4 bytes, no more than it needs, and isn't negative
unfoldable pub is_integer : List ℕ → Bool
is_integer [] = false
is_integer (a ∷ []) = ltb a 0x80
is_integer (a ∷ b ∷ x) =
    if ltb 2 (length x) then false else
    if ltb a 0x80 then (if eqb a 0 then leb 0x80 b else true) else
    false

-- ---- identifiers

abbrev pub pkcs7 : ℕ → List ℕ
pkcs7 last = 0x2A ∷ 0x86 ∷ 0x48 ∷ 0x86 ∷ 0xF7 ∷ 0x0D ∷ 0x01 ∷ 0x07 ∷ last ∷ []

abbrev pub bag_id : ℕ → List ℕ
bag_id last = 0x2A ∷ 0x86 ∷ 0x48 ∷ 0x86 ∷ 0xF7 ∷ 0x0D ∷ 0x01 ∷ 0x0C ∷ 0x0A ∷ 0x01 ∷ last ∷ []

abbrev pub x509 : List ℕ
x509 = 0x2A ∷ 0x86 ∷ 0x48 ∷ 0x86 ∷ 0xF7 ∷ 0x0D ∷ 0x01 ∷ 0x09 ∷ 0x16 ∷ 0x01 ∷ []

unfoldable pub any_type : List ℕ → ℕ
any_type x = if is_identifier x then 0 else 5

-- Rule 3.5: the outer type is data; signedData is 7 (Rule 5.7)
unfoldable pub outer_type : List ℕ → ℕ
outer_type x =
    if is_identifier x then
    if same_bytes x (pkcs7 0x01) then 0 else
    if same_bytes x (pkcs7 0x02) then 7 else 5 else
    5

-- Rules 3.8, 3.9: a safe's is data or encryptedData; envelopedData is 7 (Rule 5.7)
unfoldable pub safe_type : List ℕ → ℕ
safe_type x =
    if is_identifier x then
    if same_bytes x (pkcs7 0x01) then 0 else
    if same_bytes x (pkcs7 0x06) then 0 else
    if same_bytes x (pkcs7 0x03) then 7 else 5 else
    5

-- Rule 3.10: the type in an EncryptedContentInfo is data
unfoldable pub data_type : List ℕ → ℕ
data_type x =
    if is_identifier x then
    if same_bytes x (pkcs7 0x01) then 0 else 5 else
    5

-- Rule 3.14: the six kinds of bag; a well-formed bagId of another kind is 7 (Rule 5.7)
unfoldable pub bag_type : List ℕ → ℕ
bag_type x =
    if is_identifier x then
    if same_bytes x (bag_id 0x01) then 0 else
    if same_bytes x (bag_id 0x02) then 0 else
    if same_bytes x (bag_id 0x03) then 0 else
    if same_bytes x (bag_id 0x04) then 0 else
    if same_bytes x (bag_id 0x05) then 0 else
    if same_bytes x (bag_id 0x06) then 0 else 7 else
    5

-- ---- integers

-- Rule 3.3: version 3
unfoldable pub version : List ℕ → ℕ
version x = if is_integer x then (if eqb (number x) 3 then 0 else 5) else 5

-- Rule 3.9: version 0; version 2 is 7 (Rule 5.7)
unfoldable pub encrypted_version : List ℕ → ℕ
encrypted_version x =
    if is_integer x then
    if eqb (number x) 2 then 7 else
    if eqb (number x) 0 then 0 else 5 else
    5

-- Rule 3.22: iterations that are written are 2 to 2,147,483,647
unfoldable pub iterations : List ℕ → ℕ
iterations x = if is_integer x then (if leb 2 (number x) then 0 else 5) else 5
