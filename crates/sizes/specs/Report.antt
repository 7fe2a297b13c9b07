-- What each case of an answer reports (Rule 9.2). `Report` is that of `der`.
use Rattle.std.specs.Prelude.{[], ◌∷◌, None, Option, Some}
use Rattle.der.specs.Element.{fault}
use Rattle.der.specs.Report.{Report, passing, refusing}
use Rattle.sizes.specs.declared.rows.Form.{Form}

-- whether a kind of bag holds bags, 1, or not, 0; a row of no kind is no row of a reading, so its
-- table isn't sound (11)
abbrev pub form_report : Option Form → Report
form_report (Some Form.Leaf) = passing (0 ∷ [])
form_report (Some Form.Nested) = passing (1 ∷ [])
form_report None = refusing (fault 11 0)
