-- Uploads and the answer at the end of each, with every number written out: M (Rule 8.1) whole,
-- early and with a byte too many; and faults that are certain before the byte at which the check of
-- the whole would meet them.
use Rattle.std.specs.Prelude.{◌≡◌, List, [], ◌∷◌, ◌++◌, map, ℕ, zero, suc, ◌+◌, take}
use Rattle.std.specs.Prelude.{Err, Ok, Result}
use Rattle.der.specs.Element.{fault}
use Rattle.stream.specs.declared.Counts.{Counts}
use Rattle.stream.specs.declared.Refusal.{Refusal}
use Rattle.stream.specs.Upload.{counts, refusal, begun, taken, ended}

-- the announced length, the bytes that arrive, the answer at the end
pub record Case : Type 0 where
  pub announced : ℕ
  pub bytes : List ℕ
  pub answer : Result Counts Refusal

abbrev pub passes : (n : ℕ) → List ℕ → (elements level : ℕ) → Case
passes n b m v = record { announced = n; bytes = b; answer = Ok (counts m v) }

abbrev pub refuses : (n : ℕ) → List ℕ → (number offset after : ℕ) → Case
refuses n b m p k = record { announced = n; bytes = b; answer = Err (refusal (fault m p) k) }

abbrev pub Holds : List Case → Type 0
Holds cases =
    map (λ (c : Case). ended (taken (begun c.announced) c.bytes)) cases ≡ map (λ (c : Case). c.answer) cases

-- M, 47 bytes
unfoldable pub m : List ℕ
m =
    0x30 ∷ 0x2D ∷ 0x02 ∷ 0x01 ∷ 0x03 ∷ 0x30 ∷ 0x11 ∷ 0x06 ∷ 0x09 ∷ 0x2A ∷ 0x86 ∷ 0x48 ∷ 0x86 ∷ 0xF7 ∷ 0x0D ∷ 0x01
    ∷ 0x07 ∷ 0x01 ∷ 0xA0 ∷ 0x04 ∷ 0x04 ∷ 0x02 ∷ 0x30 ∷ 0x00 ∷ 0x30 ∷ 0x15 ∷ 0x30 ∷ 0x10 ∷ 0x30 ∷ 0x0B ∷ 0x06 ∷ 0x09
    ∷ 0x60 ∷ 0x86 ∷ 0x48 ∷ 0x01 ∷ 0x65 ∷ 0x03 ∷ 0x04 ∷ 0x02 ∷ 0x01 ∷ 0x04 ∷ 0x01 ∷ 0xAA ∷ 0x04 ∷ 0x01 ∷ 0x55 ∷ []

-- the headers of k SEQUENCEs, one in the other, that all end after them; and the same with lengths
-- after 82, 511 bytes further on
unfoldable pub nested : ℕ → List ℕ
nested zero = []
nested (suc k) = 0x30 ∷ (k + k) ∷ nested k

unfoldable pub nested_long : ℕ → List ℕ
nested_long zero = []
nested_long (suc k) = 0x30 ∷ 0x82 ∷ 0x02 ∷ (0x03 + k + k + k + k) ∷ nested_long k

unfoldable pub bench_cases : List Case
bench_cases =
    -- M; all but its last byte; one byte more
    passes 47 m 12 5
    ∷ refuses 47 (take 46 m) 20 0 46
    ∷ refuses 47 (m ++ 0x00 ∷ []) 19 0 48
    -- announced with 0 bytes, with one too few, with too many
    ∷ refuses 0 m 1 0 0
    ∷ refuses 46 m 15 0 2
    ∷ refuses 65_536 m 9 0 0
    -- a tag in its parent's last byte; 81 and 82 with too few bytes left for the length's octets
    ∷ refuses 3 (0x30 ∷ 0x01 ∷ 0x04 ∷ []) 15 2 3
    ∷ refuses 4 (0x30 ∷ 0x02 ∷ 0x04 ∷ 0x81 ∷ []) 15 2 4
    ∷ refuses 5 (0x30 ∷ 0x03 ∷ 0x04 ∷ 0x82 ∷ []) 15 2 4
    -- 82 00; 82 and an octet whose smallest length runs past the parent
    ∷ refuses 300 (0x30 ∷ 0x82 ∷ 0x00 ∷ []) 3 0 3
    ∷ refuses 300 (0x30 ∷ 0x82 ∷ 0x02 ∷ []) 15 0 3
    -- bytes left over after a body that isn't examined, and after an empty one: with the header
    ∷ refuses 5 (0x04 ∷ 0x01 ∷ []) 6 3 2
    ∷ refuses 3 (0x30 ∷ 0x00 ∷ []) 6 2 2
    -- the forms of a tag and of a length
    ∷ refuses 2 (0x1F ∷ []) 2 0 1
    ∷ refuses 2 (0x04 ∷ 0x80 ∷ []) 3 0 2
    -- 20 levels; 21; level 21 after 82 with an octet whose greatest length fits, and with one whose
    -- greatest doesn't
    ∷ passes 40 (nested 20) 20 20
    ∷ refuses 42 (nested 21) 8 40 42
    ∷ refuses 595 (nested_long 20 ++ 0x04 ∷ 0x82 ∷ 0x01 ∷ []) 8 80 83
    ∷ refuses 595 (nested_long 20 ++ 0x04 ∷ 0x82 ∷ 0x02 ∷ []) 15 80 83
    ∷ []
