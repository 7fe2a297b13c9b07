-- What the calls on uploads return and store: what each answer of `cells` reports, as numbers.
use Rattle.std.specs.Prelude.{Err, ℕ, Ok, Result, ⊤}
use Rattle.stream.specs.declared.Counts.{Counts}
use Rattle.stream.specs.declared.Refusal.{Refusal}
use Rattle.p12.specs.Calls.{ok}
use Rattle.p12.specs.declared.upload.Reported.{Reported}

abbrev pub reported : (number offset after elements level : ℕ) → Reported
reported n p a m v = record { number = n; offset = p; after = a; elements = m; level = v }

-- a fault: its number, its offset, and after how many bytes it was certain
abbrev pub refused : Refusal → Reported
refused r = reported r.fault.number r.fault.offset r.after 0 0

-- no fault, or one
abbrev pub status_reported : Result ⊤ Refusal → Reported
status_reported (Ok tt) = reported ok 0 0 0 0
status_reported (Err r) = refused r

-- the number of elements and the greatest level; or a fault
abbrev pub end_reported : Result Counts Refusal → Reported
end_reported (Ok x) = reported ok 0 0 x.elements x.level
end_reported (Err r) = refused r
