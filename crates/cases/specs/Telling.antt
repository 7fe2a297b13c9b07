-- Files that detect slips of Rule 8.5, and files that detect a wrong number: in them, and in what
-- is said of them, every tag, identifier, size and refusal is written out.
use Rattle.std.specs.Prelude.{true, false, List, [], ◌∷◌, ◌++◌, ℕ, zero, suc, drop, replicate}
use Rattle.std.proofs.Math.Seq.{slice}
use Rattle.range.specs.Range.{range, no_range}
use Rattle.pkcs12.specs.Table.{parts, no_parts, safe_row, bag_row, attribute_row, Rows, table_of}
use Rattle.pkcs12.specs.declared.kind.SafeKind.TheVariants.{Plain, Encrypted}
use Rattle.pkcs12.specs.declared.kind.BagKind.TheVariants.{Key, ShroudedKey, Certificate, Crl, Secret, Nested}
use Rattle.std.specs.Prelude.{None, Some}
use Rattle.der.specs.Octets.{tlv}
use Rattle.cases.specs.Bench.{Case, case, accepted, refusal, quiet, digested, m}

-- M with NULL parameters, 05 00
abbrev null_parameters : List ℕ
null_parameters = 0x30 ∷ 0x2F ∷ (slice 2 24 m ++ (0x30 ∷ 0x17 ∷ 0x30 ∷ 0x12 ∷ 0x30 ∷ 0x0D ∷ (slice 30 41 m ++ (0x05 ∷ 0x00 ∷ drop 41 m))))

-- the identifier element of a kind of bag
abbrev kind : ℕ → List ℕ
kind last = 0x06 ∷ 0x0B ∷ 0x2A ∷ 0x86 ∷ 0x48 ∷ 0x86 ∷ 0xF7 ∷ 0x0D ∷ 0x01 ∷ 0x0C ∷ 0x0A ∷ 0x01 ∷ last ∷ []

-- one plain safe with a nested bag, and in it a key with one attribute, whose values are a NULL;
-- `size` is the length of the nested SafeContents, which is 30
abbrev nested_key : ℕ → List ℕ
nested_key size =
    0x30 ∷ 0x71 ∷ 0x02 ∷ 0x01 ∷ 0x03 ∷ 0x30 ∷ 0x55
    ∷ (slice 7 18 m ++ (0xA0 ∷ 0x48 ∷ 0x04 ∷ 0x46 ∷ 0x30 ∷ 0x44 ∷ 0x30 ∷ 0x42
    ∷ (slice 7 18 m ++ (0xA0 ∷ 0x35 ∷ 0x04 ∷ 0x33 ∷ 0x30 ∷ 0x31
    ∷ 0x30 ∷ 0x2F ∷ (kind 0x06 ++ (0xA0 ∷ 0x20 ∷ 0x30 ∷ size
    ∷ 0x30 ∷ 0x1C ∷ (kind 0x01 ++ (0xA0 ∷ 0x02 ∷ 0x30 ∷ 0x00 ∷ 0x31 ∷ 0x09 ∷ 0x30 ∷ 0x07 ∷ 0x06 ∷ 0x01 ∷ 0x55 ∷ 0x31 ∷ 0x02 ∷ 0x05 ∷ 0x00 ∷ drop 24 m))))))))

-- the bags and the attribute: the attribute is that of the key
abbrev nested_rows : Rows
nested_rows =
    record {
      safes = safe_row Plain no_parts ∷ [];
      bags = bag_row Nested 0 None no_parts false ∷ bag_row Key 0 (Some 0) (parts no_range no_range (range 79 81)) true ∷ [];
      attributes = attribute_row 1 (range 87 88) (range 90 92) ∷ [];
      input = range 22 92;
      count = 31;
    }

unfoldable pub slip_cases : List Case
slip_cases =
    -- absent parameters and NULL read as one
    case null_parameters (accepted (quiet (range 22 24) (digested (range 32 41) (range 41 43) (range 45 46) (range 48 49) 1) 14))
    -- the attributes of a bag in a nested bag taken for the nested bag's
    ∷ case (nested_key 0x1E) (accepted (table_of nested_rows (digested (range 100 109) (range 109 109) (range 111 112) (range 114 115) 1)))
    -- a nested body bounded by the file in place of its parent
    ∷ case (nested_key 0x1F) (refusal 15 60)
    ∷ []

-- ---- parts of files

-- the identifier element of a type of content: data is 1
abbrev pkcs7 : ℕ → List ℕ
pkcs7 last = 0x06 ∷ 0x09 ∷ 0x2A ∷ 0x86 ∷ 0x48 ∷ 0x86 ∷ 0xF7 ∷ 0x0D ∷ 0x01 ∷ 0x07 ∷ last ∷ []

-- a ContentInfo, and a PFX with M's MacData, by the type and what [0] holds
abbrev info : ℕ → List ℕ → List ℕ
info type x = tlv 0x30 (pkcs7 type ++ tlv 0xA0 x)

abbrev outer : ℕ → List ℕ → List ℕ
outer type x = tlv 0x30 (0x02 ∷ 0x01 ∷ 0x03 ∷ (info type x ++ drop 24 m))

-- a PFX with these safes, and a plain safe with these bags
abbrev holding : List ℕ → List ℕ
holding safes = outer 0x01 (tlv 0x04 (tlv 0x30 safes))

abbrev plain : List ℕ → List ℕ
plain bags = info 0x01 (tlv 0x04 (tlv 0x30 bags))

-- an encrypted safe with this version and inner type, its algorithm 2A without parameters, and x
-- behind it
abbrev sealed : ℕ → ℕ → List ℕ → List ℕ
sealed version type x = info 0x06 (tlv 0x30 (0x02 ∷ 0x01 ∷ version ∷ tlv 0x30 (pkcs7 type ++ (0x30 ∷ 0x03 ∷ 0x06 ∷ 0x01 ∷ 0x2A ∷ x))))

-- a bag of this kind; an x509Certificate with the value x
abbrev bag : ℕ → List ℕ → List ℕ
bag last x = tlv 0x30 (kind last ++ tlv 0xA0 x)

abbrev x509 : List ℕ → List ℕ
x509 x = tlv 0x30 (0x06 ∷ 0x0A ∷ 0x2A ∷ 0x86 ∷ 0x48 ∷ 0x86 ∷ 0xF7 ∷ 0x0D ∷ 0x01 ∷ 0x09 ∷ 0x16 ∷ 0x01 ∷ tlv 0xA0 x)

-- an empty SEQUENCE, NULL, a ciphertext
abbrev empty : List ℕ
empty = 0x30 ∷ 0x00 ∷ []

abbrev null : List ℕ
null = 0x05 ∷ 0x00 ∷ []

abbrev ciphertext : List ℕ
ciphertext = 0x80 ∷ 0x01 ∷ 0x09 ∷ []

-- x n times; n levels of SEQUENCE; bags nested n deep
unfoldable pub times : ℕ → List ℕ → List ℕ
times zero x = []
times (suc n) x = x ++ times n x

unfoldable pub deep : ℕ → List ℕ
deep zero = []
deep (suc n) = tlv 0x30 (deep n)

unfoldable pub nests : ℕ → List ℕ
nests zero = []
nests (suc n) = bag 0x06 (tlv 0x30 (nests n))

-- a key with n empty attributes of type 2A
abbrev attributed : ℕ → List ℕ
attributed n = tlv 0x30 (kind 0x01 ++ (0xA0 ∷ 0x02 ∷ 0x30 ∷ 0x00 ∷ tlv 0x31 (times n (0x30 ∷ 0x05 ∷ 0x06 ∷ 0x01 ∷ 0x2A ∷ 0x31 ∷ 0x00 ∷ []))))

-- an encrypted safe and a bag of each kind; only a certificate's value must be an OCTET STRING
abbrev every_kind : Case
every_kind =
    case
    (holding
    (sealed 0x00 0x01 ciphertext
    ++ plain
    (bag 0x01 empty
    ++ (bag 0x02 (0x30 ∷ 0x08 ∷ 0x30 ∷ 0x03 ∷ 0x06 ∷ 0x01 ∷ 0x2A ∷ 0x04 ∷ 0x01 ∷ 0x09 ∷ [])
    ++ (bag 0x03 (x509 (0x04 ∷ 0x01 ∷ 0x07 ∷ [])) ++ (bag 0x04 (x509 null) ++ (bag 0x05 (x509 null) ++ bag 0x06 empty)))))))
    (accepted
    (table_of
    (record {
      safes = safe_row Encrypted (parts (range 67 68) (range 68 68) (range 70 71)) ∷ safe_row Plain no_parts ∷ [];
      bags =
          bag_row Key 1 None (parts no_range no_range (range 111 113)) false
          ∷ bag_row ShroudedKey 1 None (parts (range 136 137) (range 137 137) (range 139 140)) false
          ∷ bag_row Certificate 1 None (parts (range 161 171) no_range (range 173 176)) false
          ∷ bag_row Crl 1 None (parts (range 197 207) no_range (range 209 211)) false
          ∷ bag_row Secret 1 None (parts (range 232 242) no_range (range 244 246)) false
          ∷ bag_row Nested 1 None no_parts false
          ∷ [];
      attributes = [];
      input = range 27 265;
      count = 64;
    })
    (digested (range 273 282) (range 282 282) (range 284 285) (range 287 288) 1)))

-- an opaque element of 16 levels
abbrev sixteen_levels : Case
sixteen_levels =
    case (holding (plain (bag 0x01 (deep 16))))
    (accepted
    (table_of
    (record {
      safes = safe_row Plain no_parts ∷ [];
      bags = bag_row Key 0 None (parts no_range no_range (range 60 92)) false ∷ [];
      attributes = [];
      input = range 22 92;
      count = 37;
    })
    (digested (range 100 109) (range 109 109) (range 111 112) (range 114 115) 1)))

unfoldable pub number_cases : List Case
number_cases =
    every_kind
    ∷ sixteen_levels
    -- 1: nothing in the PFX. 15: a header that is cut after the tag, after 81, after 82 00, and at
    -- the end of its parent; a body that ends past its parent
    ∷ case empty (refusal 1 2)
    ∷ case (0x30 ∷ []) (refusal 15 0)
    ∷ case (0x30 ∷ 0x81 ∷ []) (refusal 15 0)
    ∷ case (0x30 ∷ 0x82 ∷ 0x00 ∷ []) (refusal 15 0)
    ∷ case (0x30 ∷ 0x01 ∷ 0x02 ∷ 0x01 ∷ 0x03 ∷ []) (refusal 15 2)
    ∷ case (0x30 ∷ 0x02 ∷ 0x02 ∷ 0x01 ∷ 0x03 ∷ []) (refusal 15 2)
    -- 2 and 3: a wrong form in the last byte, of a tag and of a length
    ∷ case (0x00 ∷ []) (refusal 2 0)
    ∷ case (0x30 ∷ 0x80 ∷ []) (refusal 3 0)
    ∷ case (0x30 ∷ 0x83 ∷ []) (refusal 3 0)
    -- 4: another tag than 80 for the ciphertext; an x509Certificate that is not an OCTET STRING
    ∷ case (holding (sealed 0x00 0x01 (0x81 ∷ 0x01 ∷ 0x09 ∷ []))) (refusal 4 62)
    ∷ case (holding (plain (bag 0x03 (x509 null)))) (refusal 4 76)
    -- 5: outer encryptedData; a safe of signedData; an inner type that is not data; EncryptedData
    -- version 1
    ∷ case (outer 0x06 (tlv 0x04 empty)) (refusal 5 7)
    ∷ case (holding (info 0x02 empty)) (refusal 5 26)
    ∷ case (holding (sealed 0x00 0x02 ciphertext)) (refusal 5 46)
    ∷ case (holding (sealed 0x01 0x01 ciphertext)) (refusal 5 41)
    -- 7: outer signedData; a safe of envelopedData; EncryptedData version 2; no ciphertext; no
    -- MacData; a bagId of another kind
    ∷ case (outer 0x02 (tlv 0x04 empty)) (refusal 7 7)
    ∷ case (holding (info 0x03 empty)) (refusal 7 26)
    ∷ case (holding (sealed 0x02 0x01 ciphertext)) (refusal 7 41)
    ∷ case (holding (sealed 0x00 0x01 [])) (refusal 7 62)
    ∷ case (tlv 0x30 (slice 2 24 m)) (refusal 7 24)
    ∷ case (holding (plain (bag 0x07 empty))) (refusal 7 45)
    -- 8: 17 safes; 65 bags; 129 attributes; safe contents of level 9; an opaque element of level 17
    ∷ case (holding (times 17 (plain []))) (refusal 8 338)
    ∷ case (holding (plain (times 65 (bag 0x01 empty)))) (refusal 8 1277)
    ∷ case (holding (plain (attributed 129))) (refusal 8 982)
    ∷ case (holding (plain (nests 8))) (refusal 8 206)
    ∷ case (holding (plain (bag 0x01 (deep 17)))) (refusal 8 92)
    -- 9: 65,536 bytes; with one byte less the first tag is met
    ∷ case (replicate 65536 0) (refusal 9 0)
    ∷ case (replicate 65535 0) (refusal 2 0)
    ∷ []
