-- The numbers of refusals that only pairing reports.
use Rattle.std.specs.Prelude.{ℕ}

-- Rules 5.13, 5.14: no certificate for this key; more than one
abbrev pub no_certificate : ℕ
no_certificate = 13

abbrev pub more_certificates : ℕ
more_certificates = 14
