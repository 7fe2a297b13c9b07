-- What each case of an answer reports (Rule 9.2).
use Rattle.std.specs.Prelude.{List, [], ◌∷◌, ℕ}
use Rattle.der.specs.declared.Fault.{Fault}
use Rattle.der.specs.declared.Cursor.{Cursor}
use Rattle.der.specs.declared.Checked.{Checked}
use Rattle.der.specs.declared.Element.{Element}
use Rattle.der.specs.declared.Integer.{Integer}
use Rattle.std.specs.Prelude.{Err, Ok, Result}

-- the number of a refusal, 0 where there is none; its offset, 0 where there is none; the values of
-- what is no refusal
pub record Report : Type 0 where
  pub number : ℕ
  pub offset : ℕ
  pub values : List ℕ

abbrev pub refusing : Fault → Report
refusing f = record { number = f.number; offset = f.offset; values = [] }

abbrev pub passing : List ℕ → Report
passing x = record { number = 0; offset = 0; values = x }

-- a cursor: from and to
abbrev pub cursor_values : Cursor → List ℕ
cursor_values c = c.at ∷ c.end ∷ []

-- an element: its tag, its body from and to, what follows it from and to
unfoldable pub element_report : Result Element Fault → Report
element_report (Ok x) = passing (x.tag ∷ x.body.at ∷ x.body.end ∷ x.next.at ∷ x.next.end ∷ [])
element_report (Err f) = refusing f

-- a check: the number of elements, what follows them from and to
unfoldable pub checked_report : Result Checked Fault → Report
checked_report (Ok x) = passing (x.count ∷ x.next.at ∷ x.next.end ∷ [])
checked_report (Err f) = refusing f

-- an INTEGER: its number, what follows it from and to
unfoldable pub integer_report : Result Integer Fault → Report
integer_report (Ok x) = passing (x.value ∷ x.next.at ∷ x.next.end ∷ [])
integer_report (Err f) = refusing f
