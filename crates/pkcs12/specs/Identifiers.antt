-- The identifiers that reading a file goes by, as body bytes.
use Rattle.std.specs.Prelude.{List, [], ◌∷◌, ℕ}
use Rattle.std.specs.Prelude.{if◌then◌else◌}
use Rattle.pkcs12.specs.declared.kind.BagKind.{BagKind}
use Rattle.pkcs12.specs.declared.kind.BagKind.TheVariants.{Key, ShroudedKey, Certificate, Crl, Secret, Nested}
use Rattle.range.specs.Bytes.{same_bytes}

-- Rule 3.23: data is 2A 86 48 86 F7 0D 01 07 01; signedData, envelopedData and encryptedData have
-- the last byte 02, 03, 06
abbrev pub pkcs7 : ℕ → List ℕ
pkcs7 last = 0x2A ∷ 0x86 ∷ 0x48 ∷ 0x86 ∷ 0xF7 ∷ 0x0D ∷ 0x01 ∷ 0x07 ∷ last ∷ []

unfoldable pub data_type : List ℕ
data_type = pkcs7 0x01

unfoldable pub signed_type : List ℕ
signed_type = pkcs7 0x02

unfoldable pub enveloped_type : List ℕ
enveloped_type = pkcs7 0x03

unfoldable pub encrypted_type : List ℕ
encrypted_type = pkcs7 0x06

-- Rule 3.23: x509Certificate is 2A 86 48 86 F7 0D 01 09 16 01
unfoldable pub x509_certificate : List ℕ
x509_certificate = 0x2A ∷ 0x86 ∷ 0x48 ∷ 0x86 ∷ 0xF7 ∷ 0x0D ∷ 0x01 ∷ 0x09 ∷ 0x16 ∷ 0x01 ∷ []

-- Rule 3.14: the kinds of bag, 2A 86 48 86 F7 0D 01 0C 0A 01 and then 01 to 06
abbrev pub bag_type : ℕ → List ℕ
bag_type last = 0x2A ∷ 0x86 ∷ 0x48 ∷ 0x86 ∷ 0xF7 ∷ 0x0D ∷ 0x01 ∷ 0x0C ∷ 0x0A ∷ 0x01 ∷ last ∷ []

unfoldable pub identifier_of : BagKind → List ℕ
identifier_of Key = bag_type 0x01
identifier_of ShroudedKey = bag_type 0x02
identifier_of Certificate = bag_type 0x03
identifier_of Crl = bag_type 0x04
identifier_of Secret = bag_type 0x05
identifier_of Nested = bag_type 0x06
identifier_of BagKind.None = []

-- the kind that a bagId's body names; `None` for one of another kind (Rule 5.7)
unfoldable pub kind_of : List ℕ → BagKind
kind_of body =
    if same_bytes body (identifier_of Key) then Key else
    if same_bytes body (identifier_of ShroudedKey) then ShroudedKey else
    if same_bytes body (identifier_of Certificate) then Certificate else
    if same_bytes body (identifier_of Crl) then Crl else
    if same_bytes body (identifier_of Secret) then Secret else
    if same_bytes body (identifier_of Nested) then Nested else
    BagKind.None
