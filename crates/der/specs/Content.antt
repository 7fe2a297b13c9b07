-- The bodies of OBJECT IDENTIFIER (Rule 2.8) and INTEGER (Rule 2.9).
use Rattle.std.specs.Prelude.{Bool, true, false, List, [], ◌∷◌, ℕ, ◌+◌, ◌-◌, ◌*◌, ◌≤◌, ◌<◌, leb, ltb, eqb, length, get_or}
use Rattle.std.proofs.Math.Seq.{slice}
use Rattle.std.specs.Prelude.{if◌then◌else◌}
use Rattle.der.specs.Numbers.{content, identifier_tag, integer_tag}
use Rattle.der.specs.Element.{fault, expect_at, on_element, on_result}
use Rattle.der.specs.declared.Fault.{Fault}
use Rattle.der.specs.declared.Cursor.{Cursor}
use Rattle.der.specs.Element.{element, valued}
use Rattle.der.specs.declared.Element.{Element}
use Rattle.der.specs.declared.Integer.{Integer}
use Rattle.std.specs.Prelude.{Err, Ok, Result}

-- Rule 2.8: no part begins with the byte 80 (hex); `begins` says that a part begins with b
abbrev pub breaks : Bool → ℕ → Bool
breaks begins b = if begins then eqb b 0x80 else false

-- The bytes from one of a part on: none of them breaks, and the last, below 80 (hex), ends a part.
unfoldable pub parts : Bool → List ℕ → Bool
parts begins [] = begins
parts begins (b ∷ bs) = if breaks begins b then false else parts (ltb b 0x80) bs

-- Rule 2.8: the body of an OBJECT IDENTIFIER isn't empty, ends in a byte below 80 (hex), and no
-- part of it begins with 80
unfoldable pub identifier_body : List ℕ → Bool
identifier_body [] = false
identifier_body (b ∷ bs) = parts true (b ∷ bs)

-- whether a part of the identifier from `from` on begins at i (Rule 2.8)
unfoldable pub begins_at : List ℕ → ℕ → ℕ → Bool
begins_at s from i = if leb i from then true else ltb (get_or s (i - 1) 0) 0x80

-- the bytes of a body
abbrev pub bytes_of : List ℕ → Cursor → List ℕ
bytes_of s b = slice b.at b.end s

-- an OBJECT IDENTIFIER; a body that breaks Rule 2.8 is 5 (Rule 2.11), at its tag
unfoldable pub identifier_at : List ℕ → Cursor → Result Element Fault
identifier_at s c =
    on_element (expect_at identifier_tag s c)
    Err
    (λ t b n. if identifier_body (bytes_of s b) then Ok (element t b n) else Err (fault content c.at))

-- Rule 2.9: the body of an INTEGER has 1 to 4 bytes, no more than it needs, and isn't negative
unfoldable pub integer_body : List ℕ → Cursor → Bool
integer_body s b =
    if leb b.end b.at then false else
    if ltb (b.at + 4) b.end then false else
    if leb 0x80 (get_or s b.at 0) then false else
    if leb b.end (b.at + 1) then true else
    if eqb (get_or s b.at 0) 0 then leb 0x80 (get_or s (b.at + 1) 0) else
    true

-- the number v with the digit at i behind it, where the body goes so far
unfoldable pub and_digit : List ℕ → ℕ → ℕ → ℕ → ℕ
and_digit s end i v = if ltb i end then v * 256 + get_or s i 0 else v

-- what reading a number requires of a body: it lies in the list, isn't empty, and begins with a
-- byte below 80 (hex)
pub record IntegerAt (s : List ℕ) (b : Cursor) : Type 0 where
  pub inside : b.end ≤ length s
  pub some : b.at < b.end
  pub first : get_or s b.at 0 < 0x80

-- the number that a body of 1 to 4 bytes holds, most significant byte first
unfoldable pub integer_value : List ℕ → Cursor → ℕ
integer_value s b =
    and_digit s b.end (b.at + 3)
    (and_digit s b.end (b.at + 2) (and_digit s b.end (b.at + 1) (get_or s b.at 0)))

-- an INTEGER with its number; another breach is 5, at its tag
unfoldable pub integer_at : List ℕ → Cursor → Result Integer Fault
integer_at s c =
    on_element (expect_at integer_tag s c)
    Err
    (λ t b n. if integer_body s b then Ok (valued (integer_value s b) n) else Err (fault content c.at))

-- what is made of a refusal, and of a number
abbrev pub on_integer : {A : Type 0} → Result Integer Fault → (Fault → A) → (ℕ → Cursor → A) → A
on_integer x bad good = on_result x bad (λ i. good i.value i.next)
