-- One element: a tag byte, a length and a body (Rule 2.1), read at a cursor of a list of bytes.
use Rattle.std.specs.Prelude.{Bool, true, List, ℕ, ◌+◌, ◌*◌, ◌%◌, leb, ltb, eqb, length, get_or}
use Rattle.std.specs.Prelude.{if◌then◌else◌}
use Rattle.der.specs.Numbers.{missing, overrun, tag_form, length_form, other_tag, left_over, no_tag}
use Rattle.der.specs.declared.Fault.{Fault}
use Rattle.der.specs.declared.Cursor.{Cursor}
use Rattle.der.specs.declared.Checked.{Checked}
use Rattle.der.specs.declared.Element.{Element}
use Rattle.der.specs.declared.Integer.{Integer}
use Rattle.std.specs.Prelude.{Err, Ok, Result}

abbrev pub cursor : ℕ → ℕ → Cursor
cursor a e = record { at = a; end = e }

-- Rule 5.36: a refusal's number and its offset
abbrev pub fault : ℕ → ℕ → Fault
fault n p = record { number = n; offset = p }

abbrev pub element : ℕ → Cursor → Cursor → Element
element t b n = record { tag = t; body = b; next = n }

abbrev pub checked : ℕ → Cursor → Checked
checked k n = record { count = k; next = n }

abbrev pub valued : ℕ → Cursor → Integer
valued v n = record { value = v; next = n }

-- what is made of a refusal, and of a value
abbrev pub on_result : {T A : Type 0} → Result T Fault → (Fault → A) → (T → A) → A
on_result (Err f) bad good = bad f
on_result (Ok x) bad good = good x

-- Rule 2.4: the parent of the outermost element is the file
abbrev pub whole_of : List ℕ → Cursor
whole_of s = cursor 0 (length s)

-- Rule 5.1: no byte is left in the parent; a cursor that ends past the bytes, or before its own
-- position, has none either
unfoldable pub no_byte_left : List ℕ → Cursor → Bool
no_byte_left s c = if ltb (length s) c.end then true else leb c.end c.at

-- the next byte; `no_tag` where no byte is left
unfoldable pub tag_at : List ℕ → Cursor → ℕ
tag_at s c = if no_byte_left s c then no_tag else get_or s c.at 0

-- Rule 5.6: bytes are left in a parent after its last element (6)
unfoldable pub finish_at : Cursor → Result Checked Fault
finish_at c = if ltb c.at c.end then Err (fault left_over c.at) else Ok (checked 0 c)

-- Rule 2.4: the body ends within its parent, or the element is refused (15) at the offset of its tag
unfoldable pub within : ℕ → ℕ → ℕ → ℕ → Result Cursor Fault
within at start size end =
    if ltb end (start + size) then Err (fault overrun at) else
    Ok (cursor start (start + size))

-- Rule 2.3: 81 and a byte 80..FF. Rule 5.33: a header with a byte missing is 15
unfoldable pub one_octet : List ℕ → ℕ → ℕ → Result Cursor Fault
one_octet s at end =
    if leb end (at + 2) then Err (fault overrun at) else
    if ltb (get_or s (at + 2) 0) 0x80 then Err (fault length_form at) else
    within at (at + 3) (get_or s (at + 2) 0) end

-- Rule 2.3: 82 and two bytes 0100..FFFF. Rule 5.33: a header with a byte missing is 15
unfoldable pub two_octets : List ℕ → ℕ → ℕ → Result Cursor Fault
two_octets s at end =
    if leb end (at + 3) then Err (fault overrun at) else
    if eqb (get_or s (at + 2) 0) 0 then Err (fault length_form at) else
    within at (at + 4) (get_or s (at + 2) 0 * 256 + get_or s (at + 3) 0) end

-- Rule 2.3: the three forms of a length; every other one is refused (3). Rule 5.33: a first byte
-- 80, or 83 and above, is refused at once, also where it is the last byte.
unfoldable pub extent_at : List ℕ → ℕ → ℕ → Result Cursor Fault
extent_at s at end =
    if leb end (at + 1) then Err (fault overrun at) else
    if ltb (get_or s (at + 1) 0) 0x80 then within at (at + 2) (get_or s (at + 1) 0) end else
    if eqb (get_or s (at + 1) 0) 0x81 then one_octet s at end else
    if eqb (get_or s (at + 1) 0) 0x82 then two_octets s at end else
    Err (fault length_form at)

-- Rule 2.2: the tag 00, and every tag with its low five bits all set, is refused (2). Then the
-- length, then the body's end (Rule 5.32). Where no byte is left, 1 at the parent's end (Rule 5.1).
unfoldable pub element_at : List ℕ → Cursor → Result Element Fault
element_at s c =
    if no_byte_left s c then Err (fault missing c.end) else
    if eqb (get_or s c.at 0) 0 then Err (fault tag_form c.at) else
    if eqb (get_or s c.at 0 % 0x20) 0x1F then Err (fault tag_form c.at) else
    on_result (extent_at s c.at c.end) Err (λ b. Ok (element (get_or s c.at 0) b (cursor b.end c.end)))

-- what is made of a refusal, and of an element
abbrev pub on_element : {A : Type 0} → Result Element Fault → (Fault → A) → (ℕ → Cursor → Cursor → A) → A
on_element x bad good = on_result x bad (λ e. good e.tag e.body e.next)

-- Rule 5.4: another tag than the one that is due (4)
unfoldable pub expect_at : ℕ → List ℕ → Cursor → Result Element Fault
expect_at due s c =
    on_element (element_at s c)
    Err
    (λ t b n. if eqb t due then Ok (element t b n) else Err (fault other_tag c.at))
