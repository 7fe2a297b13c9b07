-- The check of the whole (Rule 10.2): one opaque element of 20 levels at most, and no byte after
-- it. A check that passes returns the number of elements and the greatest level.
use Rattle.std.specs.Prelude.{List, ℕ, zero, suc, ◌+◌, ◌-◌, ◌/◌, ◌%◌, max, ltb, eqb, length}
use Rattle.std.specs.Prelude.{if◌then◌else◌}
use Rattle.der.specs.Numbers.{left_over, too_many}
use Rattle.der.specs.Element.{cursor, fault, element_at, on_element}
use Rattle.der.specs.Many.{many}
use Rattle.der.specs.declared.Fault.{Fault}
use Rattle.buffer.specs.Numbers.{file_bytes, too_long}
use Rattle.header.specs.Numbers.{upload_levels}

-- the number of elements so far, and the greatest level
pub record Tally : Type 0 where
  pub elements : ℕ
  pub level : ℕ

abbrev pub no_element : Tally
no_element = record { elements = 0; level = 0 }

-- one element more, on this level
unfoldable pub tallied : ℕ → Tally → Tally
tallied v tl = record { elements = tl.elements + 1; level = max tl.level v }

-- what a check of elements comes to: a fault, or what was counted and the offset past them
pub data Walked : Type 0 where
  Stopped : Fault → Walked
  Reached : Tally → ℕ → Walked

abbrev pub on_walked : {A : Type 0} → Walked → (Fault → A) → (Tally → ℕ → A) → A
on_walked (Stopped f) bad good = bad f
on_walked (Reached tl p) bad good = good tl p

abbrev pub go_on : Walked → (Tally → ℕ → Walked) → Walked
go_on x next = on_walked x Stopped next

-- `opaque_at` of `der` (Rules 2.6, 2.7) with l levels left, counting on from a tally; the element is
-- on level v, and its parent ends at `end`
unfoldable pub walk_at : ℕ → ℕ → List ℕ → ℕ → Tally → ℕ → Walked
walk_at zero v s end tl at =
    on_element (element_at s (cursor at end)) Stopped (λ t b n. Stopped (fault too_many at))
walk_at (suc l) v s end tl at =
    on_element (element_at s (cursor at end))
    Stopped
    (λ t b n.
    if eqb (t / 0x20 % 2) 0 then Reached (tallied v tl) b.end else
    many go_on Reached (walk_at l (suc v) s b.end) (b.end - b.at) b.end (tallied v tl) b.at)

-- the answer for a whole upload
pub data Answer : Type 0 where
  Refused : Fault → Answer
  Passed : Tally → Answer

unfoldable pub whole : List ℕ → Answer
whole s =
    if ltb file_bytes (length s) then Refused (fault too_long 0) else
    on_walked (walk_at upload_levels 1 s (length s) no_element 0)
    Refused
    (λ tl p. if ltb p (length s) then Refused (fault left_over p) else Passed tl)
