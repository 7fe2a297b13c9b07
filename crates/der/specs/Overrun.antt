-- When an element is missing (Rule 5.1), and when it runs past its parent (Rule 5.15): the
-- statements that these refusals of an element are proved equivalent to.
use Rattle.std.specs.Prelude.{◌⊎◌, ◌≡◌, List, ℕ, ◌+◌, ◌≤◌, ◌<◌, length, get_or}
use Rattle.der.specs.Numbers.{length_bound}
use Rattle.der.specs.Octets.{length_octets, TagForm}
use Rattle.der.specs.Span.{Span}
use Rattle.der.specs.declared.Cursor.{Cursor}

-- Rule 5.1: a byte is left in the parent, which lies within the bytes
pub record ByteLeft (s : List ℕ) (c : Cursor) : Type 0 where
  pub some : c.at < c.end
  pub inside : c.end ≤ length s

-- Rule 5.33: the header has a byte missing: the first byte of the length; or this is 81, and the
-- byte after it is missing; or it is 82, and one of the two bytes after it or both are missing
pub data HeaderCut (s : List ℕ) (c : Cursor) : Type 0 where
  no_length : c.end ≡ c.at + 1 → HeaderCut s c
  after_81 : get_or s (c.at + 1) 0 ≡ 0x81 → c.end ≡ c.at + 2 → HeaderCut s c
  after_82 : get_or s (c.at + 1) 0 ≡ 0x82 → c.at + 2 ≤ c.end → c.end ≤ c.at + 3 → HeaderCut s c

-- Rule 2.4: the header is whole, its length is of a form that is taken (Rule 2.3), and the body of
-- `size` bytes from `start` ends past the parent
pub record BodyPast (s : List ℕ) (c : Cursor) : Type 0 where
  pub size : ℕ
  pub start : ℕ
  pub small : size < length_bound
  pub octets : Span s (c.at + 1) start (length_octets size)
  pub whole : start ≤ c.end
  pub past : c.end < start + size

-- Rule 5.15: a byte is left, the form of the tag is taken, and the header or the body runs past the
-- parent
pub record RunsPast (s : List ℕ) (c : Cursor) : Type 0 where
  pub left : ByteLeft s c
  pub form : TagForm (get_or s c.at 0)
  pub past : HeaderCut s c ⊎ BodyPast s c
