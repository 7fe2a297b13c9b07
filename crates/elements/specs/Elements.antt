-- The elements of one attribute, one behind another in the body of its SET (Rule 3.20).
use Rattle.std.specs.Prelude.{List, [], ◌∷◌, ℕ, zero, suc, ◌-◌, ltb, eqb, length, get_or}
use Rattle.std.specs.Prelude.{if◌then◌else◌}
use Rattle.der.specs.Element.{cursor, element_at, on_element}
use Rattle.range.specs.Range.{range, no_range}
use Rattle.range.specs.declared.Range.{Range}
use Rattle.elements.specs.declared.Counted.{Counted}

-- the range of each element, header included, up to the first that is none
unfoldable pub elements_from : ℕ → List ℕ → ℕ → ℕ → List Range
elements_from zero s end at = []
elements_from (suc fuel) s end at =
    if ltb at end then
    on_element (element_at s (cursor at end)) (λ f. []) (λ t b n. range at n.at ∷ elements_from fuel s end n.at) else
    []

-- those of a range's bytes; an element has at least two bytes, so as many steps as bytes reach them
-- all
unfoldable pub element_ranges : List ℕ → Range → List Range
element_ranges s r = elements_from (r.end - r.start) s r.end r.start

abbrev pub counts : ℕ → Range → Counted
counts n r = record { count = n; element = r }

-- how many there are, and element i; 0..0 where there is none
unfoldable pub counted_of : List Range → ℕ → Counted
counted_of rs i = counts (length rs) (get_or rs i no_range)

-- ---- what a private function computes

-- the range that is looked for, once it is met
unfoldable pub chosen_of : ℕ → ℕ → Range → Range → Range
chosen_of n i found here = if eqb n i then here else found
