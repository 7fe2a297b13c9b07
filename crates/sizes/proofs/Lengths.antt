-- The lengths of what is written, by the sizes of its parts.
use mathlib.Core.Path.{◌≡◌, refl, ap, ◌∙◌}
use mathlib.Core.List.{List, ◌++◌}
use Prim.Native.Nat.{ℕ}
use lib.ListN.{length, length-append}
use Rattle.der.specs.Octets.{digits_from, digits, length_octets, tlv, integer_octets, integer, identifier, sequence}
use Rattle.der.specs.Octets.{octet_string}
use Rattle.std.specs.Prelude.{None}
use Rattle.der.specs.Numbers.{context_tag}
use Rattle.pkcs12.specs.Numbers.{pfx_version}
use Rattle.pkcs12.specs.Identifiers.{data_type, encrypted_type, identifier_of}
use Rattle.pkcs12.specs.Syntax.{Set, Sealed, encrypted, Pfx}
use Rattle.pkcs12.specs.Encode.{content_info, data_bytes, set_bytes, bag_bytes, safe_bytes, safes_bytes, mac_bytes, encode}
use Rattle.pkcs12.specs.declared.kind.BagKind.{BagKind}
use Rattle.pkcs12.specs.declared.kind.BagKind.TheVariants.{Key, ShroudedKey, Certificate, Crl, Secret, Nested}
use Rattle.sizes.specs.Bodies.{encrypted_data_body, mac_body}
use Rattle.sizes.specs.Picked.{form_of}
use Rattle.sizes.specs.Sizes.{bag_size, content_info_size, data_size, pfx_size}
use Rattle.encode.specs.Sizes.{element_size}
use Rattle.encode.proofs.Capped.{length_element}

-- every kind of bag has an identifier of eleven bytes
bag_id_long : (k : BagKind) → (form_of k ≡ None → ⊥) → length (identifier (identifier_of k)) ≡ 13
unfolding identifier_of tlv length_octets
bag_id_long BagKind.None h = absurd (h refl)
bag_id_long Key h = refl
bag_id_long ShroudedKey h = refl
bag_id_long Certificate h = refl
bag_id_long Crl h = refl
bag_id_long Secret h = refl
bag_id_long Nested h = refl

-- the body of a bag
pub bag_body_long : (k : BagKind) (c : List ℕ) (set : Set) → (form_of k ≡ None → ⊥)
    → length (identifier (identifier_of k) ++ (tlv context_tag c ++ set_bytes set))
    ≡ bag_size (length c) (length (set_bytes set))
unfolding bag_size
bag_body_long k c set h =
    rw (
      length-append (identifier (identifier_of k)) (tlv context_tag c ++ set_bytes set),
      bag_id_long k h,
      length-append (tlv context_tag c) (set_bytes set),
      length_element context_tag c,
    ) refl

pub length_bag : (k : BagKind) (c : List ℕ) (set : Set) → (form_of k ≡ None → ⊥)
    → length (bag_bytes k c set) ≡ element_size (bag_size (length c) (length (set_bytes set)))
unfolding bag_bytes
length_bag k c set h = length_element _ _ ∙ ap element_size (bag_body_long k c set h)

-- the body of a ContentInfo
pub info_body_long : (type content : List ℕ) → length (identifier type) ≡ 11
    → length (identifier type ++ tlv context_tag content) ≡ content_info_size (length content)
unfolding content_info_size
info_body_long type content h =
    rw (length-append (identifier type) (tlv context_tag content), h, length_element context_tag content) refl

pub length_info : (type content : List ℕ) → length (identifier type) ≡ 11
    → length (content_info type content) ≡ element_size (content_info_size (length content))
unfolding content_info
length_info type content h = length_element _ _ ∙ ap element_size (info_body_long type content h)

pub data_type_long : length (identifier data_type) ≡ 11
unfolding data_type tlv length_octets
data_type_long = refl

pub encrypted_type_long : length (identifier encrypted_type) ≡ 11
unfolding encrypted_type tlv length_octets
encrypted_type_long = refl

pub length_data : (x : List ℕ) → length (data_bytes x) ≡ element_size (data_size (length x))
unfolding data_bytes data_size
length_data x =
    length_info data_type (octet_string (sequence x)) data_type_long
    ∙ ap (λ (n : ℕ). element_size (content_info_size n)) (length_element _ _ ∙ ap element_size (length_element _ x))

pub length_encrypted : (x : Sealed)
    → length (safe_bytes (encrypted x)) ≡ element_size (content_info_size (element_size (length (encrypted_data_body x))))
unfolding safe_bytes encrypted_data_body
length_encrypted x =
    length_info encrypted_type (sequence (encrypted_data_body x)) encrypted_type_long
    ∙ ap (λ (n : ℕ). element_size (content_info_size n)) (length_element _ (encrypted_data_body x))

pfx_version_long : length (integer pfx_version) ≡ 3
unfolding integer_octets digits digits_from tlv length_octets
pfx_version_long = refl

-- the body of a PFX
pub pfx_body_long : (x : Pfx) → length (integer pfx_version ++ (data_bytes (safes_bytes x.safes) ++ mac_bytes x.mac))
    ≡ pfx_size (length (safes_bytes x.safes)) (length (mac_body x.mac))
unfolding mac_bytes mac_body pfx_size
pfx_body_long x =
    let rest : List ℕ = data_bytes (safes_bytes x.safes) ++ mac_bytes x.mac in
    rw (
      length-append (integer pfx_version) rest,
      pfx_version_long,
      length-append (data_bytes (safes_bytes x.safes)) (mac_bytes x.mac),
      length_data (safes_bytes x.safes),
      length_element 48 (mac_body x.mac),
    ) refl

pub length_encode : (x : Pfx)
    → length (encode x) ≡ element_size (pfx_size (length (safes_bytes x.safes)) (length (mac_body x.mac)))
unfolding encode
length_encode x = length_element _ _ ∙ ap element_size (pfx_body_long x)
