-- Two tests. A choice between two values by a test is the library's `if`.
use Rattle.std.specs.Prelude.{Bool, false, if◌then◌else◌}

-- both of two tests
abbrev pub both : Bool → Bool → Bool
both t u = if t then u else false
