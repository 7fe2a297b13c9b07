-- What each case of an answer reports (Rule 9.2). `Report` is that of `der`.
use Rattle.std.specs.Prelude.{◌∷◌}
use Rattle.std.specs.Prelude.{if◌then◌else◌}
use Rattle.der.specs.Report.{Report, passing, refusing}
use Rattle.pkcs12.specs.Report.{bag_number}
use Rattle.buffer.specs.Report.{range_values}
use Rattle.der.specs.declared.Fault.{Fault}
use Rattle.pairing.specs.declared.IdentityRow.{IdentityRow}
use Rattle.std.specs.Prelude.{Err, Ok, Result}

-- an identity row (Rule 7.3): the kind, whether there is an id, and the id's bytes, from and to
unfoldable pub identity_report : Result IdentityRow Fault → Report
identity_report (Ok r) = passing (bag_number r.kind ∷ (if r.has_id then 1 else 0) ∷ range_values r.id)
identity_report (Err f) = refusing f
