-- The numbers, sizes, tags and identifiers of the rules, each beside the name that the definitions
-- use for it. They are written out as the rules have them, and `numbers_named` among the theorems
-- says that each name has the value beside it.
use Rattle.std.specs.Prelude.{List, [], ◌∷◌, ℕ}
use Rattle.pkcs12.specs.Numbers.{not_served, no_row, safe_rows, bag_rows, attribute_rows, levels, ciphertext_tag}
use Rattle.pkcs12.specs.Numbers.{pfx_version, encrypted_version, attributed_version, default_iterations}
use Rattle.pkcs12.specs.Identifiers.{data_type, signed_type, enveloped_type, encrypted_type, x509_certificate}
use Rattle.pkcs12.specs.Identifiers.{identifier_of}
use Rattle.der.specs.Named.{Named}
use Rattle.pkcs12.specs.declared.kind.BagKind.TheVariants.{Key, ShroudedKey, Certificate, Crl, Secret, Nested}

-- Rules 5.7, 5.12
unfoldable pub named_refusals : List (ℕ × ℕ)
named_refusals = (not_served, 7) ∷ (no_row, 12) ∷ []

-- Rules 1.3 (rows), 1.4 (levels of safe contents)
unfoldable pub named_sizes : List (ℕ × ℕ)
named_sizes =
    (safe_rows, 16)
    ∷ (bag_rows, 64)
    ∷ (attribute_rows, 128)
    ∷ (levels, 8)
    ∷ []

-- Rule 3.10 (the ciphertext)
unfoldable pub named_tags : List (ℕ × ℕ)
named_tags = (ciphertext_tag, 0x80) ∷ []

-- Rules 3.3 (version of a PFX), 3.9 (of EncryptedData), 5.7 (the one that is 7), 3.22 (iterations
-- that are absent)
unfoldable pub named_integers : List (ℕ × ℕ)
named_integers =
    (pfx_version, 3)
    ∷ (encrypted_version, 0)
    ∷ (attributed_version, 2)
    ∷ (default_iterations, 1)
    ∷ []

-- Rules 3.23 (types of content, x509Certificate), 3.14 (kinds of bag)
unfoldable pub named_identifiers : List (List ℕ × List ℕ)
named_identifiers =
    (data_type, 0x2A ∷ 0x86 ∷ 0x48 ∷ 0x86 ∷ 0xF7 ∷ 0x0D ∷ 0x01 ∷ 0x07 ∷ 0x01 ∷ [])
    ∷ (signed_type, 0x2A ∷ 0x86 ∷ 0x48 ∷ 0x86 ∷ 0xF7 ∷ 0x0D ∷ 0x01 ∷ 0x07 ∷ 0x02 ∷ [])
    ∷ (enveloped_type, 0x2A ∷ 0x86 ∷ 0x48 ∷ 0x86 ∷ 0xF7 ∷ 0x0D ∷ 0x01 ∷ 0x07 ∷ 0x03 ∷ [])
    ∷ (encrypted_type, 0x2A ∷ 0x86 ∷ 0x48 ∷ 0x86 ∷ 0xF7 ∷ 0x0D ∷ 0x01 ∷ 0x07 ∷ 0x06 ∷ [])
    ∷ (x509_certificate, 0x2A ∷ 0x86 ∷ 0x48 ∷ 0x86 ∷ 0xF7 ∷ 0x0D ∷ 0x01 ∷ 0x09 ∷ 0x16 ∷ 0x01 ∷ [])
    ∷ (identifier_of Key, 0x2A ∷ 0x86 ∷ 0x48 ∷ 0x86 ∷ 0xF7 ∷ 0x0D ∷ 0x01 ∷ 0x0C ∷ 0x0A ∷ 0x01 ∷ 0x01 ∷ [])
    ∷ (identifier_of ShroudedKey, 0x2A ∷ 0x86 ∷ 0x48 ∷ 0x86 ∷ 0xF7 ∷ 0x0D ∷ 0x01 ∷ 0x0C ∷ 0x0A ∷ 0x01 ∷ 0x02 ∷ [])
    ∷ (identifier_of Certificate, 0x2A ∷ 0x86 ∷ 0x48 ∷ 0x86 ∷ 0xF7 ∷ 0x0D ∷ 0x01 ∷ 0x0C ∷ 0x0A ∷ 0x01 ∷ 0x03 ∷ [])
    ∷ (identifier_of Crl, 0x2A ∷ 0x86 ∷ 0x48 ∷ 0x86 ∷ 0xF7 ∷ 0x0D ∷ 0x01 ∷ 0x0C ∷ 0x0A ∷ 0x01 ∷ 0x04 ∷ [])
    ∷ (identifier_of Secret, 0x2A ∷ 0x86 ∷ 0x48 ∷ 0x86 ∷ 0xF7 ∷ 0x0D ∷ 0x01 ∷ 0x0C ∷ 0x0A ∷ 0x01 ∷ 0x05 ∷ [])
    ∷ (identifier_of Nested, 0x2A ∷ 0x86 ∷ 0x48 ∷ 0x86 ∷ 0xF7 ∷ 0x0D ∷ 0x01 ∷ 0x0C ∷ 0x0A ∷ 0x01 ∷ 0x06 ∷ [])
    ∷ []

-- all of them
pub record NumbersNamed : Type 0 where
  pub refusals : Named named_refusals
  pub sizes : Named named_sizes
  pub tags : Named named_tags
  pub integers : Named named_integers
  pub identifiers : Named named_identifiers
