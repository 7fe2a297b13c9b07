-- One rule for every element, on byte lists (sections 2 and 5 of the rules). What is left of a
-- parent is a list of bytes and the offset of the first of them.
use Rattle.std.specs.Prelude.{Bool, true, false, List, [], ◌∷◌, ℕ, zero, suc, ◌+◌, ◌*◌, ◌/◌, ◌%◌, ltb, eqb, length, take, drop}
use Rattle.std.specs.Prelude.{if◌then◌else◌}

pub record Left : Type 0 where
  pub offset : ℕ
  pub bytes : List ℕ

abbrev pub left : ℕ → List ℕ → Left
left p x = record { offset = p; bytes = x }

-- how many rows there are so far
pub record Made : Type 0 where
  pub safes : ℕ
  pub bags : ℕ
  pub attributes : ℕ

-- the account stops with a number at an offset, or goes on with what is left of the parent
pub data Account : Type 0 where
  stops : ℕ → ℕ → Account
  goes : Made → Left → Account

-- what is due next
abbrev pub Rule : Type 0
Rule = Made → Left → Account

-- ---- the header

-- a number, or: the tag, the size of the header, the size of the body, and the bytes after the
-- header
pub data Header : Type 0 where
  wrong : ℕ → Header
  right : ℕ → ℕ → ℕ → List ℕ → Header

abbrev pub on_header : {A : Type 0} → Header → (ℕ → A) → (ℕ → ℕ → ℕ → List ℕ → A) → A
on_header (wrong n) bad good = bad n
on_header (right t h size x) bad good = good t h size x

-- Rule 2.4: the body ends within its parent, or the element is refused (15)
unfoldable pub fitting : ℕ → ℕ → ℕ → List ℕ → Header
fitting t h size x = if ltb (length x) size then wrong 15 else right t h size x

-- Rule 2.3: 81 and a byte 80..FF. Rule 5.33: a header with a byte missing is 15
unfoldable pub after81 : ℕ → List ℕ → Header
after81 t [] = wrong 15
after81 t (a ∷ x) = if ltb a 0x80 then wrong 3 else fitting t 3 a x

-- Rule 2.3: 82 and two bytes 0100..FFFF
unfoldable pub after82 : ℕ → List ℕ → Header
after82 t [] = wrong 15
after82 t (a ∷ []) = wrong 15
after82 t (a ∷ b ∷ x) = if eqb a 0 then wrong 3 else fitting t 4 (a * 0x100 + b) x

-- Rule 2.3: the three forms of a length; every other one is refused (3). Rule 5.33: a first byte
-- 80, or 83 and above, is 3 at once
unfoldable pub sized : ℕ → List ℕ → Header
sized t [] = wrong 15
sized t (n ∷ x) =
    if ltb n 0x80 then fitting t 2 n x else
    if eqb n 0x81 then after81 t x else
    if eqb n 0x82 then after82 t x else
    wrong 3

-- Rule 5.1: no byte is left in the parent (1). Rule 2.2: the tag 00, and every tag with its low
-- five bits all set, is refused (2)
unfoldable pub header : List ℕ → Header
header [] = wrong 1
header (t ∷ x) =
    if eqb t 0 then wrong 2 else
    if eqb (t % 0x20) 0x1F then wrong 2 else
    sized t x

-- ---- the element

-- a choice by whether no byte is left
abbrev pub where_none : {A : Type 0} → List ℕ → A → A → A
where_none [] none some = none
where_none (b ∷ x) none some = some

-- Rule 5.6: bytes are left in a parent after its last element (6); a body that was gone through is
-- at its end
abbrev pub closed : Account → Left → Account
closed (stops n p) after = stops n p
closed (goes made l) after = where_none l.bytes (goes made after) (stops 6 l.offset)

-- what a body comes to: elements by a rule, or bytes that are judged, 0 where they are allowed and
-- else the number
pub data Content : Type 0 where
  walked : Rule → Content
  judged : (List ℕ → ℕ) → Content

abbrev pub allowed : ℕ → ℕ → Made → Left → Account
allowed zero offset made after = goes made after
allowed (suc n) offset made after = stops (suc n) offset

abbrev pub inside : Content → ℕ → Made → Left → Left → Account
inside (walked rule) offset made body after = closed (rule made body) after
inside (judged judge) offset made body after = allowed (judge body.bytes) offset made after

-- Rule 5.32: form of the tag, form of the length, body within the parent, the tag that is due,
-- space for the row or level, content. Rule 5.36: the offset is that of the tag, which is the
-- parent's end where no byte is left.
unfoldable pub element : (ℕ → Bool) → (Made → Bool) → (ℕ → Content) → Rule
element due full content made l =
    on_header (header l.bytes)
    (λ n. stops n l.offset)
    (λ t h size x.
    if due t then
    if full made then stops 8 l.offset else
    inside (content t) l.offset made (left (l.offset + h) (take size x)) (left (l.offset + h + size) (drop size x))
    else
    stops 4 l.offset)

-- the body of the element in front
unfoldable pub front_body : List ℕ → List ℕ
front_body x = on_header (header x) (λ n. []) (λ t h size y. take size y)

-- ---- rules one after another

abbrev pub onwards : Account → Rule → Account
onwards (stops n p) rule = stops n p
onwards (goes made l) rule = rule made l

infixr 5 ◌before◌
abbrev pub ◌before◌ : Rule → Rule → Rule
◌before◌ first second made l = onwards (first made l) second

-- zero or more, to the parent's end; the number bounds how many
unfoldable pub each_of : ℕ → Rule → Rule
each_of zero rule made l = goes made l
each_of (suc n) rule made l = where_none l.bytes (goes made l) (onwards (rule made l) (each_of n rule))

abbrev pub each : Rule → Rule
each rule made l = each_of (length l.bytes) rule made l

-- at most one
abbrev pub if_any : Rule → Rule
if_any rule made l = where_none l.bytes (goes made l) (rule made l)

-- Rule 5.35: 7 in place of 1 where the parent ends exactly there: no ciphertext, no MacData
abbrev pub served : Rule → Rule
served rule made l = where_none l.bytes (stops 7 l.offset) (rule made l)

-- an element that may be absent, with this tag; any other byte is left over, 6 (Rule 5.34)
abbrev pub first_is : ℕ → List ℕ → Bool
first_is t [] = false
first_is t (b ∷ x) = eqb b t

abbrev pub if_tag : ℕ → Rule → Rule
if_tag t rule made l = if first_is t l.bytes then rule made l else goes made l

-- ---- kinds of element

abbrev pub is : ℕ → ℕ → Bool
is due t = eqb t due

abbrev pub any : ℕ → Bool
any t = true

abbrev pub never : Made → Bool
never made = false

abbrev pub always : Made → Bool
always made = true

abbrev pub constructed : ℕ → Rule → Rule
constructed tag rule = element (is tag) never (λ t. walked rule)

abbrev pub primitive : ℕ → (List ℕ → ℕ) → Rule
primitive tag judge = element (is tag) never (λ t. judged judge)

-- a primitive element, and then what is due by its body
abbrev pub naming : ℕ → (List ℕ → ℕ) → (List ℕ → Rule) → Rule
naming tag judge next made l = onwards (primitive tag judge made l) (next (front_body l.bytes))

abbrev pub anything : List ℕ → ℕ
anything body = 0

-- Rule 2.6: an opaque element: if bit 20 (hex) of the tag is set, the body is zero or more complete
-- elements; if not, it isn't examined. Rule 2.7: with n levels left; where none is, the element is
-- refused (8)
unfoldable pub opaque : (ℕ → Bool) → ℕ → Rule
opaque due zero = element due always (λ t. judged anything)
opaque due (suc n) = element due never (λ t. if eqb (t / 0x20 % 2) 0 then judged anything else walked
    (each (opaque any n)))
