-- The ways out of the calls on text: what `pem` returned is what the call returns and stores. What
-- the calls report is what the answers report. w is the answer, z the buffer afterwards.
use mathlib.Core.Path.{◌≡◌, refl, ap, ◌∙◌}
use mathlib.Core.List.{List}
use Prim.Native.Nat.{ℕ}
use lib.ListN.{length, get_or}
use Rattle.der.proofs.Choices.{by_lt, by_eq}
use Rattle.buffer.specs.Report.{written_report}
use Rattle.buffer.specs.Written.{Outcome, length_of, into_buffer}
use Rattle.der.specs.declared.Fault.{Fault}
use Rattle.std.specs.Prelude.{Err, Ok, Result}
use Rattle.pem.specs.Calls.{imported, exported}
use Rattle.pem.specs.Wrap.{wrap}
use Rattle.p12.specs.Calls.{number_of, offset_of, written_offset, import_call, import_offset, export_call}
use Rattle.p12.proofs.Gives.{three_and, Gives, written_told, wrote_gives}

pub import_gives : (t buffer : List ℕ) (w : Result ℕ Fault) → w ≡ (imported t buffer).answer
    → (z : List ℕ) → z ≡ (imported t buffer).buffer → (n : ℕ) → n ≡ number_of w
    → (k : ℕ) → k ≡ length_of w → (j : ℕ) → j ≡ offset_of w
    → (n ≡ (import_call t buffer).number)
    × ((z ≡ (import_call t buffer).memory) × ((k ≡ (import_call t buffer).value) × (j ≡ import_offset t buffer)))
unfolding import_call import_offset
import_gives t buffer w p z q n r k e j l =
    three_and (wrote_gives (imported t buffer) w z p q n r k e) (l ∙ (written_told w).1 ∙ ap (λ (x : Result ℕ Fault). written_offset x) p)

pub export_gives : (x buffer : List ℕ) (w : Result ℕ Fault) → w ≡ (exported x buffer).answer
    → (z : List ℕ) → z ≡ (exported x buffer).buffer → (n : ℕ) → n ≡ number_of w
    → (k : ℕ) → k ≡ length_of w → Gives (export_call x buffer) n z k
unfolding export_call
export_gives x buffer w p z q = wrote_gives (exported x buffer) w z p q

-- ---- what the calls report is what the answers report: number, offset and length

length_reports : (w : Result ℕ Fault) → length_of w ≡ get_or (written_report w).values 0 0
unfolding written_report
length_reports (Ok n) = refl
length_reports (Err f) = refl

pub import_reports : (t buffer : List ℕ)
    → ((import_call t buffer).number ≡ (written_report (imported t buffer).answer).number)
    × ((import_offset t buffer ≡ (written_report (imported t buffer).answer).offset)
    × ((import_call t buffer).value ≡ get_or (written_report (imported t buffer).answer).values 0 0))
unfolding import_call import_offset
import_reports t buffer = (refl, (refl, length_reports (imported t buffer).answer))

-- no answer of export has an offset: its refusals are at 0
module _ (x buffer : List ℕ) where
  abbrev AtZero : Outcome → Type 0
  AtZero o = 0 ≡ (written_report o.answer).offset

  export_at : AtZero (exported x buffer)
  unfolding exported into_buffer written_report
  export_at =
      by_eq AtZero _ _ (length x) 0
      (λ h. refl)
      (λ h. by_lt AtZero _ _ 65_535 (length x) (λ k. refl)
      (λ k. by_lt AtZero _ _ (length buffer) (length (wrap x)) (λ i. refl) (λ i. refl)))

  pub export_reports : ((export_call x buffer).number ≡ (written_report (exported x buffer).answer).number)
      × ((0 ≡ (written_report (exported x buffer).answer).offset)
      × ((export_call x buffer).value ≡ get_or (written_report (exported x buffer).answer).values 0 0))
  unfolding export_call
  export_reports = (refl, (export_at, length_reports (exported x buffer).answer))
