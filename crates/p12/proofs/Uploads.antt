-- The ways out of the calls on uploads: what a call returns and stores of the answer that `cells`
-- gave.
use mathlib.Core.Path.{◌≡◌, refl, ap, ◌∙◌}
use mathlib.Core.List.{List, [], ◌∷◌}
use Prim.Native.Nat.{ℕ}
use lib.ListN.{get_or}
use Rattle.std.specs.Prelude.{Err, Ok, Result, ⊤}
use Rattle.stream.specs.declared.Counts.{Counts}
use Rattle.stream.specs.declared.Refusal.{Refusal}
use Rattle.stream.specs.Report.{status_report, end_report}
use Rattle.p12.specs.declared.upload.Reported.{Reported}
use Rattle.p12.specs.Uploads.{status_reported, end_reported}

-- what x reports y reports
module _ (x y : Result ⊤ Refusal) (t : Reported) (e : x ≡ y) (p : t ≡ status_reported x) where
  status_is : t ≡ status_reported y
  status_is = p ∙ ap (λ (z : Result ⊤ Refusal). status_reported z) e

  pub status_number : t.number ≡ (status_reported y).number
  status_number = ap (λ (z : Reported). z.number) status_is

  pub status_gives : (t.number ≡ (status_reported y).number)
      × ((t.offset ≡ (status_reported y).offset) × (t.after ≡ (status_reported y).after))
  status_gives = (
    status_number,
    (ap (λ (z : Reported). z.offset) status_is, ap (λ (z : Reported). z.after) status_is),
  )

module _ (x y : Result Counts Refusal) (t : Reported) (e : x ≡ y) (p : t ≡ end_reported x) where
  end_is : t ≡ end_reported y
  end_is = p ∙ ap (λ (z : Result Counts Refusal). end_reported z) e

  pub end_gives : (t.number ≡ (end_reported y).number)
      × ((t.offset ≡ (end_reported y).offset)
      × ((t.after ≡ (end_reported y).after)
      × ((t.elements ≡ (end_reported y).elements) × (t.level ≡ (end_reported y).level))))
  end_gives = (
    ap (λ (z : Reported). z.number) end_is,
    (
      ap (λ (z : Reported). z.offset) end_is,
      (
        ap (λ (z : Reported). z.after) end_is,
        (ap (λ (z : Reported). z.elements) end_is, ap (λ (z : Reported). z.level) end_is),
      ),
    ),
  )

-- what the calls report is what the answers report (`Report` of `stream`): the number, the offset, and
-- the values, which are those of a fault or those of a check that passed
pub status_reports : (s : Result ⊤ Refusal) → ((status_reported s).number ≡ (status_report s).number)
    × (((status_reported s).offset ≡ (status_report s).offset)
    × ((status_reported s).after ≡ get_or (status_report s).values 0 0))
unfolding status_report
status_reports (Ok tt) = (refl, (refl, refl))
status_reports (Err r) = (refl, (refl, refl))

abbrev pub ValuesAre : Result Counts Refusal → List ℕ → Type 0
ValuesAre (Ok c) x = x ≡ (end_reported (Ok c)).elements ∷ (end_reported (Ok c)).level ∷ []
ValuesAre (Err r) x = x ≡ (end_reported (Err r)).after ∷ []

pub end_reports : (r : Result Counts Refusal) → ((end_reported r).number ≡ (end_report r).number)
    × (((end_reported r).offset ≡ (end_report r).offset) × ValuesAre r (end_report r).values)
unfolding end_report
end_reports (Ok c) = (refl, (refl, refl))
end_reports (Err r) = (refl, (refl, refl))
