-- The bench set (Rules 8.1, 8.4): files and what reading each returns.
use Rattle.std.specs.Prelude.{false, ◌≡◌, List, [], ◌∷◌, ◌++◌, map, ℕ, take, drop, replicate}
use Rattle.std.proofs.Math.Seq.{slice}
use Rattle.der.specs.Element.{fault}
use Rattle.range.specs.Range.{range}
use Rattle.pkcs12.specs.Table.{parts, no_parts, safe_row, mac_fields, table_of}
use Rattle.pkcs12.specs.Walk.{refused, read_file}
use Rattle.range.specs.declared.Range.{Range}
use Rattle.pkcs12.specs.declared.row.Mac.{Mac}
use Rattle.pkcs12.specs.declared.kind.SafeKind.{SafeKind}
use Rattle.pkcs12.specs.declared.kind.SafeKind.TheVariants.{Plain}
use Rattle.pkcs12.specs.declared.kind.BagKind.{BagKind}
use Rattle.std.specs.Prelude.{None, Ok}
use Rattle.pkcs12.specs.declared.table.Table.{Table}
use Rattle.pkcs12.specs.declared.answers.Reading.{Reading}

-- a file and what reading it returns
pub record Case : Type 0 where
  pub file : List ℕ
  pub gives : Reading

-- what reading the files returns is what is said of them
abbrev pub Holds : List Case → Type 0
Holds cases = map (λ (c : Case). read_file c.file) cases ≡ map (λ (c : Case). c.gives) cases

abbrev pub case : List ℕ → Reading → Case
case f r = record { file = f; gives = r }

abbrev pub accepted : Table → Reading
accepted t = record { answer = Ok tt; table = t }

-- a refusal by number and offset; both are written out in every case
abbrev pub refusal : ℕ → ℕ → Reading
refusal n p = refused (fault n p)

-- Rule 8.1, M, 47 bytes: 30 2D, 02 01 03; 30 11, 06 09 data, A0 04, 04 02, 30 00; 30 15, 30 10, 30
-- 0B, 06 09 .., 04 01 AA, 04 01 55
abbrev pub m : List ℕ
m =
    0x30 ∷ 0x2D ∷ 0x02 ∷ 0x01 ∷ 0x03 ∷ 0x30 ∷ 0x11 ∷ 0x06 ∷ 0x09 ∷ 0x2A ∷ 0x86 ∷ 0x48 ∷ 0x86 ∷ 0xF7 ∷ 0x0D ∷ 0x01
    ∷ 0x07 ∷ 0x01 ∷ 0xA0 ∷ 0x04 ∷ 0x04 ∷ 0x02 ∷ 0x30 ∷ 0x00 ∷ 0x30 ∷ 0x15 ∷ 0x30 ∷ 0x10 ∷ 0x30 ∷ 0x0B ∷ 0x06 ∷ 0x09
    ∷ 0x60 ∷ 0x86 ∷ 0x48 ∷ 0x01 ∷ 0x65 ∷ 0x03 ∷ 0x04 ∷ 0x02 ∷ 0x01 ∷ 0x04 ∷ 0x01 ∷ 0xAA ∷ 0x04 ∷ 0x01 ∷ 0x55 ∷ []

-- (a) M's table, every field
abbrev table_of_m : Table
table_of_m =
    record {
      safes = replicate 16 (record { kind = SafeKind.None; parts = record { identifier = range 0 0; parameters = range 0 0; value = range 0 0 } });
      safe_count = 0;
      bags =
          replicate 64
          (record {
            kind = BagKind.None;
            safe = 0;
            enclosing = None;
            parts = record { identifier = range 0 0; parameters = range 0 0; value = range 0 0 };
            has_set = false;
          });
      bag_count = 0;
      attributes = replicate 128 (record { bag = 0; identifier = range 0 0; values = range 0 0 });
      attribute_count = 0;
      mac = record { parts = record { identifier = range 32 41; parameters = range 41 41; value = range 43 44 }; salt = range 46 47; iterations = 1 };
      mac_input = range 22 24;
      elements = 13;
    }

-- the table of a file with no safe
abbrev pub quiet : Range → Mac → ℕ → Table
quiet input x count = table_of (record { safes = []; bags = []; attributes = []; input = input; count = count }) x

-- MAC fields
abbrev pub digested : Range → Range → Range → Range → ℕ → Mac
digested identifier parameters digest salt iterations = mac_fields (parts identifier parameters digest) salt iterations

-- M with the lengths `outer` and `inner` of the PFX and MacData, and `tail` at its end
abbrev ending : ℕ → ℕ → List ℕ → List ℕ
ending outer inner tail = 0x30 ∷ outer ∷ (slice 2 25 m ++ (inner ∷ (drop 26 m ++ tail)))

-- (h) one plain safe with no bag: 30 13, 30 11, 06 09 data, A0 04, 04 02, 30 00 in the
-- AuthenticatedSafe
abbrev one_safe : List ℕ
one_safe =
    0x30 ∷ 0x40 ∷ 0x02 ∷ 0x01 ∷ 0x03 ∷ 0x30 ∷ 0x24
    ∷ (slice 7 18 m ++ (0xA0 ∷ 0x17 ∷ 0x04 ∷ 0x15 ∷ 0x30 ∷ 0x13 ∷ 0x30 ∷ 0x11
    ∷ (slice 7 18 m ++ (0xA0 ∷ 0x04 ∷ 0x04 ∷ 0x02 ∷ 0x30 ∷ 0x00 ∷ drop 24 m))))

-- (i) M with a salt of n bytes 55 behind the length octets `octets`; `outer` and `inner` are those
-- of the PFX and MacData
abbrev salted : List ℕ → List ℕ → List ℕ → ℕ → List ℕ
salted outer inner octets n = 0x30 ∷ (outer ++ (slice 2 24 m ++ (0x30 ∷ (inner ++ (slice 26 44 m ++ (0x04 ∷ (octets ++ replicate n 0x55)))))))

-- (j) M with the digest's identifier of two bytes a b
abbrev named : ℕ → ℕ → List ℕ
named a b = 0x30 ∷ 0x26 ∷ (slice 2 24 m ++ (0x30 ∷ 0x0E ∷ 0x30 ∷ 0x09 ∷ 0x30 ∷ 0x04 ∷ 0x06 ∷ 0x02 ∷ a ∷ b ∷ drop 41 m))

unfoldable pub bench_cases : List Case
bench_cases =
    -- (a) M; (b) empty file: 1 at 0; (c) M without its last byte: 15 at 0; (d) M and one byte 00: 6
    -- at 47; (e) M with version 4: 5 at 2
    case m (accepted table_of_m)
    ∷ case [] (refusal 1 0)
    ∷ case (take 46 m) (refusal 15 0)
    ∷ case (m ++ (0x00 ∷ [])) (refusal 6 47)
    ∷ case (take 4 m ++ (0x04 ∷ drop 5 m)) (refusal 5 2)
    -- (f) iterations 1 spelled out: 5 at 47; (g) 2048: accepted, 51 bytes, 14 elements
    ∷ case (ending 0x30 0x18 (0x02 ∷ 0x01 ∷ 0x01 ∷ [])) (refusal 5 47)
    ∷ case (ending 0x31 0x19 (0x02 ∷ 0x02 ∷ 0x08 ∷ 0x00 ∷ []))
    (accepted (quiet (range 22 24) (digested (range 32 41) (range 41 41) (range 43 44) (range 46 47) 2048) 14))
    -- (h) 66 bytes, 18 elements, MAC input 22..43
    ∷ case one_safe
    (accepted
    (table_of (record { safes = safe_row Plain no_parts ∷ []; bags = []; attributes = []; input = range 22 43; count = 18 })
    (digested (range 51 60) (range 60 60) (range 62 63) (range 65 66) 1)))
    -- (i) lengths 81 80 and 82 01 00 taken, 81 7F and 82 00 FF refused by 3
    ∷ case (salted (0x81 ∷ 0xAE ∷ []) (0x81 ∷ 0x95 ∷ []) (0x81 ∷ 0x80 ∷ []) 128)
    (accepted (quiet (range 23 25) (digested (range 34 43) (range 43 43) (range 45 46) (range 49 177) 1) 13))
    ∷ case (salted (0x82 ∷ 0x01 ∷ 0x30 ∷ []) (0x82 ∷ 0x01 ∷ 0x16 ∷ []) (0x82 ∷ 0x01 ∷ 0x00 ∷ []) 256)
    (accepted (quiet (range 24 26) (digested (range 36 45) (range 45 45) (range 47 48) (range 52 308) 1) 13))
    ∷ case (salted (0x81 ∷ 0xAD ∷ []) (0x81 ∷ 0x94 ∷ []) (0x81 ∷ 0x7F ∷ []) 127) (refusal 3 46)
    ∷ case (salted (0x82 ∷ 0x01 ∷ 0x2F ∷ []) (0x82 ∷ 0x01 ∷ 0x15 ∷ []) (0x82 ∷ 0x00 ∷ 0xFF ∷ []) 255) (refusal 3 48)
    -- (j) identifier bodies 80 01 and 2A 86 refused by 5
    ∷ case (named 0x80 0x01) (refusal 5 30)
    ∷ case (named 0x2A 0x86) (refusal 5 30)
    ∷ []
