-- The numbers that the definitions name: refusals (Rules 5.1 to 5.6, 5.8 and 5.15), tags and
-- bounds (section 2 of the rules).
use Rattle.std.specs.Prelude.{ℕ}

-- Rule 5.1: an element is due, and no byte is left in its parent
abbrev pub missing : ℕ
missing = 1

-- Rule 5.2: the form of a tag
abbrev pub tag_form : ℕ
tag_form = 2

-- Rule 5.3: the form of a length
abbrev pub length_form : ℕ
length_form = 3

-- Rule 5.4: another tag than the one that is due
abbrev pub other_tag : ℕ
other_tag = 4

-- Rule 5.5: a body that isn't allowed here
abbrev pub content : ℕ
content = 5

-- Rule 5.6: bytes are left in a parent after its last element
abbrev pub left_over : ℕ
left_over = 6

-- Rule 5.8: a level or a row too many
abbrev pub too_many : ℕ
too_many = 8

-- Rule 5.15: a header or a body runs past its parent
abbrev pub overrun : ℕ
overrun = 15

-- Rule 2.2: 00 is no tag, so it marks that there is none
abbrev pub no_tag : ℕ
no_tag = 0x00

-- the tags of INTEGER, OCTET STRING and OBJECT IDENTIFIER
abbrev pub integer_tag : ℕ
integer_tag = 0x02

abbrev pub octet_string_tag : ℕ
octet_string_tag = 0x04

abbrev pub identifier_tag : ℕ
identifier_tag = 0x06

-- Rules 3.3, 3.13, 3.4: the tags of SEQUENCE, SET and [0]
abbrev pub sequence_tag : ℕ
sequence_tag = 0x30

abbrev pub set_tag : ℕ
set_tag = 0x31

abbrev pub context_tag : ℕ
context_tag = 0xA0

-- Rule 2.3: the greatest length is FFFF (hex); a length below this has a form that is read
abbrev pub length_bound : ℕ
length_bound = 0x10000

-- Rule 2.9: 4 bytes at most, not negative: the numbers below 2^31
abbrev pub integer_bound : ℕ
integer_bound = 0x80000000

-- Rule 2.7: the levels of an opaque element
abbrev pub opaque_levels : ℕ
opaque_levels = 16
