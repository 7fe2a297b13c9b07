-- What the next byte of an upload decides, by what is due and by where the parent ends. These are
-- the tests of `element_at` of `der` (Rules 2.2 to 2.4), each made with the first byte that decides
-- it.
use Rattle.std.specs.Prelude.{Bool, ℕ, ◌+◌, ◌*◌, ◌%◌, leb, ltb, eqb}
use Rattle.std.specs.Prelude.{if◌then◌else◌}
use Rattle.der.specs.Numbers.{tag_form, length_form, too_many, overrun}
use Rattle.header.specs.declared.Due.{Due}
use Rattle.header.specs.declared.Due.TheVariants.{Tag, Length, One, First, Second, Body, Nothing}
use Rattle.header.specs.declared.Move.{Move}
use Rattle.header.specs.declared.Move.TheVariants.{Refuse, Await, Enter, Pass, Surplus, Stay}

-- the number of bytes that have arrived when something is due
abbrev pub arrived_at : Due → ℕ → ℕ
arrived_at (Tag at) total = at
arrived_at (Length at t) total = at + 1
arrived_at (One at t) total = at + 2
arrived_at (First at t) total = at + 2
arrived_at (Second at t h) total = at + 3
arrived_at (Body at e) total = at
arrived_at Nothing total = total
arrived_at (Due.Refused n p after) total = after

-- Rule 2.4: the header is complete, and its body ends within the parent or not (15)
unfoldable pub entering : (at t start size end : ℕ) → Move
entering at t start size end =
    if ltb end (start + size) then Refuse overrun at start else
    Enter at t start (start + size)

-- Rule 2.2: a tag of a form that isn't allowed (2), then one in the last byte of its parent (15)
unfoldable pub on_tag : (at b end : ℕ) → Move
on_tag at b end =
    if eqb b 0 then Refuse tag_form at (at + 1) else
    if eqb (b % 0x20) 0x1F then Refuse tag_form at (at + 1) else
    if leb end (at + 1) then Refuse overrun at (at + 1) else
    Await (Length at b)

-- Rule 2.3: the first byte of a length (3). A parent that has no byte left for the length's octets
-- is run past (15).
unfoldable pub on_length : (at t b end : ℕ) → Move
on_length at t b end =
    if ltb b 0x80 then entering at t (at + 2) b end else
    if eqb b 0x81 then (if leb end (at + 2) then Refuse overrun at (at + 2) else Await (One at t)) else
    if eqb b 0x82 then (if leb end (at + 3) then Refuse overrun at (at + 2) else Await (First at t)) else
    Refuse length_form at (at + 2)

-- Rule 2.3: 81 and a byte 80..FF
unfoldable pub on_one : (at t b end : ℕ) → Move
on_one at t b end =
    if ltb b 0x80 then Refuse length_form at (at + 3) else
    entering at t (at + 3) b end

-- Rule 2.3: 82 and two bytes 0100..FFFF. With the first of them the least length is known and the
-- greatest: past the parent with the least is past it with all (15); and on a level too many (8),
-- unless some would be past it.
unfoldable pub on_first : (at t b end : ℕ) → Bool → Move
on_first at t b end deep =
    if eqb b 0 then Refuse length_form at (at + 3) else
    if ltb end (at + 4 + b * 256) then Refuse overrun at (at + 3) else
    if deep then (if leb (at + 4 + b * 256 + 255) end then Refuse too_many at (at + 3) else Await (Second at t b)) else
    Await (Second at t b)

unfoldable pub on_second : (at t first b end : ℕ) → Move
on_second at t first b end = entering at t (at + 4) (first * 256 + b) end

-- `deep`: one element more would be on a level too many
abbrev pub moved : Due → (b end : ℕ) → Bool → Move
moved (Tag at) b end deep = on_tag at b end
moved (Length at t) b end deep = on_length at t b end
moved (One at t) b end deep = on_one at t b end
moved (First at t) b end deep = on_first at t b end deep
moved (Second at t h) b end deep = on_second at t h b end
moved (Body at e) b end deep = Pass at e
moved Nothing b end deep = Surplus
moved (Due.Refused n p after) b end deep = Stay
