-- An opaque element, checked in all its levels (Rules 2.6, 2.7).
use Rattle.std.specs.Prelude.{Bool, true, List, ℕ, zero, suc, ◌+◌, ◌-◌, ◌/◌, ◌%◌, eqb, leb}
use Rattle.std.specs.Prelude.{if◌then◌else◌}
use Rattle.der.specs.Numbers.{too_many}
use Rattle.der.specs.Element.{cursor, fault, element_at, on_element, on_result}
use Rattle.der.specs.Many.{many}
use Rattle.der.specs.declared.Fault.{Fault}
use Rattle.der.specs.declared.Cursor.{Cursor}
use Rattle.der.specs.Element.{checked}
use Rattle.der.specs.declared.Checked.{Checked}
use Rattle.der.specs.declared.Element.{Element}
use Rattle.std.specs.Prelude.{Err, Ok, Result}

-- what is made of a refusal, and of a check that passed
abbrev pub on_checked : {A : Type 0} → Result Checked Fault → (Fault → A) → (ℕ → Cursor → A) → A
on_checked x bad good = on_result x bad (λ k. good k.count k.next)

-- one more element checked, after m of them
abbrev pub counted : (Cursor → Result Checked Fault) → ℕ → ℕ → ℕ → Result Checked Fault
counted check end m at = on_checked (check (cursor at end)) Err (λ k n. Ok (checked (m + k) n))

-- the loop goes on from where a check that passed ended
abbrev pub go_on : Result Checked Fault → (ℕ → ℕ → Result Checked Fault) → Result Checked Fault
go_on x next = on_checked x Err (λ m n. next m n.at)

-- the loop's answer at its end
abbrev pub at_end : ℕ → ℕ → ℕ → Result Checked Fault
at_end end m at = Ok (checked m (cursor at end))

-- Rule 2.6: zero or more complete elements, each checked by `check`, up to the cursor's end
unfoldable pub run : (Cursor → Result Checked Fault) → Cursor → Result Checked Fault
run check c = many go_on (at_end c.end) (counted check c.end) (c.end - c.at) c.end 0 c.at

-- Rule 2.6: if bit 20 (hex) of the tag is set, the body is complete elements; if not, it isn't
-- examined. Rule 2.7: l levels are left, and where none is, the element is refused (8), once its
-- own form and extent are checked. The count is that of the elements checked.
unfoldable pub opaque_at : ℕ → List ℕ → Cursor → Result Checked Fault
opaque_at zero s c = on_element (element_at s c) Err (λ t b n. Err (fault too_many c.at))
opaque_at (suc l) s c =
    on_element (element_at s c)
    Err
    (λ t b n.
    if eqb (t / 0x20 % 2) 0 then Ok (checked 1 n) else
    on_checked (run (opaque_at l s) b) Err (λ m e. Ok (checked (m + 1) n)))

-- a body of zero or more opaque elements, each of l levels at most
unfoldable pub elements_at : ℕ → List ℕ → Cursor → Result Checked Fault
elements_at l s c = run (opaque_at l s) c

-- the number of the elements of such a body, where it is taken
abbrev pub number_at : ℕ → List ℕ → Cursor → Result ℕ Fault
number_at l s c = on_result (elements_at l s c) Err (λ k. Ok k.count)

-- whether nothing below an element is to be checked: bit 20 (hex) of its tag isn't set, or its body is
-- empty
unfoldable pub childless : Element → Bool
childless e = if eqb (e.tag / 0x20 % 2) 0 then true else leb e.body.end e.body.at
