-- What X.690 writes: the length octets, an element, the contents of an INTEGER. All of any size.
use Rattle.std.specs.Prelude.{◌≡◌, List, [], ◌∷◌, ◌++◌, ℕ, zero, suc, ◌+◌, ◌-◌, ◌*◌, ◌/◌, ◌%◌, ◌≤◌, ◌<◌, ltb, length, get_or}
use Rattle.std.specs.Prelude.{if◌then◌else◌}
use Rattle.der.specs.Numbers.{integer_tag, octet_string_tag, identifier_tag, sequence_tag}

-- the digits of n to the base 256, most significant first, with no leading zero but for n = 0; the
-- first argument bounds their number
unfoldable pub digits_from : ℕ → ℕ → List ℕ
digits_from zero n = []
digits_from (suc fuel) n = let high = digits_from fuel (n / 256) in if ltb n 256 then n ∷ [] else high ++ (n % 256 ∷ [])

unfoldable pub digits : ℕ → List ℕ
digits n = digits_from (suc n) n

-- X.690, 8.1.3.4 and 8.1.3.5 in the shortest form (10.1): one octet below 128, else the number of
-- octets and 128, and the octets
unfoldable pub length_octets : ℕ → List ℕ
length_octets n = if ltb n 0x80 then n ∷ [] else (0x80 + length (digits n)) ∷ digits n

-- X.690, 8.1.1: identifier octet, length octets, contents octets
unfoldable pub tlv : ℕ → List ℕ → List ℕ
tlv t body = t ∷ (length_octets (length body) ++ body)

-- X.690, 8.3: the contents of the INTEGER n, in the fewest octets whose first bit is 0
unfoldable pub integer_octets : ℕ → List ℕ
integer_octets n = if ltb (get_or (digits n) 0 0) 0x80 then digits n else 0 ∷ digits n

-- INTEGER, OCTET STRING, OBJECT IDENTIFIER, SEQUENCE
abbrev pub integer : ℕ → List ℕ
integer n = tlv integer_tag (integer_octets n)

abbrev pub octet_string : List ℕ → List ℕ
octet_string x = tlv octet_string_tag x

abbrev pub identifier : List ℕ → List ℕ
identifier x = tlv identifier_tag x

abbrev pub sequence : List ℕ → List ℕ
sequence x = tlv sequence_tag x

-- the number with these digits to the base 256 behind those of v
unfoldable pub number_from : ℕ → List ℕ → ℕ
number_from v [] = v
number_from v (d ∷ ds) = number_from (v * 256 + d) ds

unfoldable pub number : List ℕ → ℕ
number ds = number_from 0 ds

-- Rule 2.2: the tag isn't 00, and its low five bits aren't all set
pub record TagForm (t : ℕ) : Type 0 where
  pub not_zero : t ≡ 0 → ⊥
  pub low_bits : t % 0x20 ≡ 0x1F → ⊥

-- Rule 2.9: 1 to 4 bytes, no more than needed, not negative (X.690, 8.3.2: the first nine bits are
-- not all zero)
pub record IntegerRule (body : List ℕ) : Type 0 where
  pub some : 1 ≤ length body
  pub four : length body ≤ 4
  pub positive : get_or body 0 0 < 0x80
  pub minimal : 1 < length body → get_or body 0 0 ≡ 0 → 0x80 ≤ get_or body 1 0

-- Rule 2.8: at least one byte, the last below 80 (hex), and no part begins with 80. A part begins
-- with the body, and after each byte below 80.
pub record IdentifierRule (body : List ℕ) : Type 0 where
  pub some : 1 ≤ length body
  pub last : get_or body (length body - 1) 0 < 0x80
  pub first : get_or body 0 0 ≡ 0x80 → ⊥
  pub later : (i : ℕ) → i + 1 < length body → get_or body i 0 < 0x80 → get_or body (i + 1) 0 ≡ 0x80 → ⊥
